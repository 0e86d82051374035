use Rattle.std.specs.Prelude.{length}
use Rattle.history_seats.proofs.shares.+gather.Given as goal

abbrev pub decreases-gather : goal.decreases-gather
decreases-gather g l = length l.seats.now
