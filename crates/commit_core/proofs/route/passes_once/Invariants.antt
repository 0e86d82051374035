use Rattle.std.proofs.Common.{◌≡◌, drop}
use Rattle.te_snapshot.specs.Admissible.{is_distinct, nodes_of}
use Rattle.commit_core.proofs.route.passes_once.Given as goal

abbrev pub invariant-loop-i : goal.invariant-loop-i
invariant-loop-i l = is_distinct (nodes_of l.te.links l.node (drop l.i l.path)) ≡ is_distinct (nodes_of l.te.links l.start l.path)
