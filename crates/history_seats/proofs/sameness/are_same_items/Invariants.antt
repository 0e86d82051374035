use Rattle.std.specs.Prelude.{◌≡◌, take, length}
use Rattle.history_seats.proofs.sameness.are_same_items.Given as goal

abbrev pub invariant-loop-i : goal.invariant-loop-i
invariant-loop-i g l = (length l.a ≡ length l.b) × (take l.i l.a ≡ take l.i l.b)
