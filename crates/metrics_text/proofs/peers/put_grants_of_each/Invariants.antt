use Rattle.std.proofs.Common.{◌≡◌, ◌++◌, drop, map}
use Rattle.metrics_text.specs.Rows.{lines_of}
use Rattle.metrics_text.specs.Samples.{grants_of}
use Rattle.metrics_text.proofs.peers.put_grants_of_each.Given as goal

abbrev pub invariant-loop-peer : goal.invariant-loop-peer
invariant-loop-peer l = l.text.items ++ lines_of l.metric (map (grants_of l.owners) (drop l.peer-index l.peers)) ≡ l.fn.text.items ++ lines_of l.metric (map (grants_of l.owners) l.peers)
