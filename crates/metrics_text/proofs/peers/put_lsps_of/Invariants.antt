use Rattle.std.proofs.Common.{◌≡◌, ◌++◌, drop, map}
use Rattle.metrics_text.specs.Rows.{lines_of}
use Rattle.metrics_text.specs.Samples.{lsps_in}
use Rattle.metrics_text.proofs.peers.put_lsps_of.Given as goal

abbrev pub invariant-loop-state : goal.invariant-loop-state
invariant-loop-state l = l.text.items ++ lines_of l.metric (map (lsps_in l.states l.peer.peer) (drop l.state-index l.each)) ≡ l.fn.text.items ++ lines_of l.metric (map (lsps_in l.states l.peer.peer) l.each)
