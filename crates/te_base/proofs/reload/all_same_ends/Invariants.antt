use Rattle.std.proofs.Common.{◌≡◌, drop}
use Rattle.std.specs.Cmp.Lexicographic.{pointwise}
use Rattle.te_base.specs.Reload.{same_ends}
use Rattle.te_base.proofs.reload.all_same_ends.Given as goal

abbrev pub invariant-loop-place : goal.invariant-loop-place
invariant-loop-place l = pointwise same_ends (drop l.place l.links) (drop l.place l.others) ≡ pointwise same_ends l.links l.others
