use Rattle.std.proofs.Common.{◌≡◌, ◌++◌, drop}
use Rattle.metrics_text.specs.Rows.{lines_of}
use Rattle.metrics_text.specs.Samples.{numbered}
use Rattle.metrics_text.proofs.links.put_link_info.Given as goal

abbrev pub invariant-loop-number : goal.invariant-loop-number
invariant-loop-number l = l.text.items ++ lines_of l.metric (numbered l.nodes l.number (drop l.number l.links)) ≡ l.fn.text.items ++ lines_of l.metric (numbered l.nodes 0 l.links)
