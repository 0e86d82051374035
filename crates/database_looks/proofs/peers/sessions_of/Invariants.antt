use Rattle.std.proofs.Common.{◌≡◌, map, take}
use Rattle.database_looks.specs.Looks.{session_of}
use Rattle.database_looks.proofs.peers.sessions_of.Given as goal

abbrev pub invariant-loop-peer : goal.invariant-loop-peer
invariant-loop-peer l = l.sessions.items ≡ map session_of (take l.peer-index l.peers)
