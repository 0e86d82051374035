use Rattle.std.proofs.Common.{◌≡◌, map, take}
use Rattle.pce_view.specs.Peers.{known_peer}
use Rattle.pce_view.proofs.peers.known_peers.Given as goal

abbrev pub invariant-loop-peer : goal.invariant-loop-peer
invariant-loop-peer l = l.seen.items ≡ map known_peer (take l.peer-index l.peers)
