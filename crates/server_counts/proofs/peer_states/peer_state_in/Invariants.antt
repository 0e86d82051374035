use Rattle.std.proofs.Common.{◌≡◌, nat_eq, drop}
use Rattle.std.specs.Map.{lookup}
use Rattle.server_counts.proofs.peer_states.peer_state_in.Given as goal

abbrev pub invariant-loop-other : goal.invariant-loop-other
invariant-loop-other l = lookup (nat_eq l.peer) (drop l.other-index l.peer_states) ≡ lookup (nat_eq l.peer) l.peer_states
