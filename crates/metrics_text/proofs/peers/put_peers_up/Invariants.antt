use Rattle.std.proofs.Common.{◌≡◌, ◌++◌, drop, map}
use Rattle.metrics_text.specs.Rows.{lines_of}
use Rattle.metrics_text.specs.Samples.{peer_up}
use Rattle.metrics_text.proofs.peers.put_peers_up.Given as goal

abbrev pub invariant-loop-peer : goal.invariant-loop-peer
invariant-loop-peer l = l.text.items ++ lines_of l.metric (map peer_up (drop l.peer-index l.peers)) ≡ l.fn.text.items ++ lines_of l.metric (map peer_up l.peers)
