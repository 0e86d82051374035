use Rattle.std.proofs.Common.{◌≡◌, map, drop}
use Rattle.std.specs.Cmp.Lexicographic.{pointwise}
use Rattle.te_base.specs.Entries.{node_under}
use Rattle.te_base.specs.Reload.{same_node}
use Rattle.te_base.proofs.nodes.same_entries.Given as goal

abbrev pub invariant-loop-number : goal.invariant-loop-number
invariant-loop-number l = pointwise same_node (map node_under (drop l.number l.ids.entries)) (map node_under (drop l.number l.others.entries)) ≡ pointwise same_node (map node_under l.ids.entries) (map node_under l.others.entries)
