use Rattle.std.proofs.Common.{◌≡◌, take}
use Rattle.server_counts.proofs.peer_states.PeerStates.copies.Given as goal

abbrev pub invariant-loop-at : goal.invariant-loop-at
invariant-loop-at l = l.copies.items ≡ take l.at l.self.table.entries
