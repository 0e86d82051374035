use Rattle.std.proofs.Common.{◌≡◌, map, take}
use Rattle.te_snapshot.proofs.spans.add_all.Given as goal

abbrev pub invariant-loop-list : goal.invariant-loop-list
invariant-loop-list l = l.arcs ≡ map (λ list. list.items) (take l.list-index l.lists)
