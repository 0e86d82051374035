use Rattle.std.proofs.Common.{◌≡◌, take}
use Rattle.database_looks.proofs.nodes.nodes_of.Given as goal

abbrev pub invariant-loop-number : goal.invariant-loop-number
invariant-loop-number l = l.nodes.items ≡ take l.number l.te.nodes
