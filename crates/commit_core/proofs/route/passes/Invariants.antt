use Rattle.std.proofs.Common.{◌≡◌, ◌==◌, drop}
use Rattle.std.specs.List.{list_any}
use Rattle.te_snapshot.specs.Admissible.{nodes_of}
use Rattle.commit_core.proofs.route.passes.Given as goal

abbrev pub invariant-loop-number : goal.invariant-loop-number
invariant-loop-number l = list_any (λ y. y == l.node) (nodes_of l.te.links l.here (drop l.number-index l.path)) ≡ list_any (λ y. y == l.node) (nodes_of l.te.links l.start l.path)
