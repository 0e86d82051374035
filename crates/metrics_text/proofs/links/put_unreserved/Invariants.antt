use Rattle.std.proofs.Common.{◌≡◌, ◌++◌, drop}
use Rattle.metrics_text.specs.Rows.{lines_of}
use Rattle.metrics_text.specs.Samples.{unreserved_from}
use Rattle.metrics_text.proofs.links.put_unreserved.Given as goal

abbrev pub invariant-loop-number : goal.invariant-loop-number
invariant-loop-number l = l.text.items ++ lines_of l.metric (unreserved_from l.nodes l.links l.number (drop l.number l.lefts)) ≡ l.fn.text.items ++ lines_of l.metric (unreserved_from l.nodes l.links 0 l.lefts)
