use Rattle.std.proofs.Common.{◌≡◌, ◌++◌}
use Rattle.std.specs.Vec.Iter.{into_iter_items}
use Rattle.step_core.specs.Standing.{each_joins, may_have_peer}
use Rattle.step_core.proofs.state.over.add_peers.Given as goal

-- the peers that are listed now, followed by those that are left, are all peers
abbrev pub invariant-loop-peer : goal.invariant-loop-peer
invariant-loop-peer l = record {
  all : l.listed ++ into_iter_items l.peer-iterator ≡ l.fn.listed ++ l.fn.peers.items;
  decided : each_joins may_have_peer l.listed (into_iter_items l.peer-iterator) ≡ each_joins may_have_peer l.fn.listed l.fn.peers.items;
}
