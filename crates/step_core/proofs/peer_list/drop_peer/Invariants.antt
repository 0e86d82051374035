use Rattle.std.proofs.Common.{◌≡◌, ◌++◌, ◌≤◌, ◌-◌, take, drop, vec_len, vec_capacity}
use Rattle.std.specs.Prelude.{filter, not}
use Rattle.step_core.specs.States.{is_peer}
use Rattle.step_core.proofs.peer_list.drop_peer.Given as goal

abbrev pub invariant-loop-i : goal.invariant-loop-i
invariant-loop-i l = record {
  within : l.i ≤ vec_len l.peers;
  capacity : vec_capacity l.peers ≡ vec_capacity l.fn.peers;
  rest : take l.i l.peers.items ++ filter (λ p. not (is_peer l.number p)) (drop l.i l.peers.items) ≡ filter (λ p. not (is_peer l.number p)) l.fn.peers.items;
}

abbrev pub decreases-loop-i : goal.decreases-loop-i
decreases-loop-i l = vec_len l.peers - l.i
