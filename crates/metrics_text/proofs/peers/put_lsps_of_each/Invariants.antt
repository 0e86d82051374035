use Rattle.std.proofs.Common.{◌≡◌, ◌++◌, drop}
use Rattle.std.specs.List.{flat_map}
use Rattle.metrics_text.specs.Rows.{lines_of}
use Rattle.metrics_text.specs.Samples.{lsps_of}
use Rattle.metrics_text.proofs.peers.put_lsps_of_each.Given as goal

abbrev pub invariant-loop-peer : goal.invariant-loop-peer
invariant-loop-peer l = l.text.items ++ lines_of l.metric (flat_map (lsps_of l.states l.each) (drop l.peer-index l.peers)) ≡ l.fn.text.items ++ lines_of l.metric (flat_map (lsps_of l.states l.each) l.peers)
