use Rattle.std.proofs.Common.{◌≡◌, ◌++◌, ℕ, drop}
use Rattle.te_snapshot.specs.Leaving.{leaving, leaving_from, listed}
use Rattle.te_snapshot.proofs.leaving.add_all.Given as goal

abbrev pub invariant-loop-number : goal.invariant-loop-number
invariant-loop-number l = (v : ℕ) → listed l.lists v ++ leaving_from l.number (drop l.number l.links) v ≡ leaving l.links v
