use Rattle.std.specs.Prelude.{length}
use Rattle.history_seats.proofs.shares.+gather_places.Given as goal

abbrev pub decreases-gather_places : goal.decreases-gather_places
decreases-gather_places g l = length l.seats.now
