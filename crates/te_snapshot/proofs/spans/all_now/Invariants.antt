use Rattle.std.proofs.Common.{◌≡◌, ◌++◌, map, take, drop}
use Rattle.te_snapshot.specs.Leaving.{arc_now}
use Rattle.te_snapshot.proofs.spans.all_now.Given as goal

abbrev pub invariant-loop-place : goal.invariant-loop-place
invariant-loop-place l = l.all.items ≡ map (arc_now l.links) (take l.place l.fn.arcs) ++ drop l.place l.fn.arcs
