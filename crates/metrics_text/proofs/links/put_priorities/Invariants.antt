use Rattle.std.proofs.Common.{◌≡◌, ◌++◌, drop}
use Rattle.metrics_text.specs.Rows.{lines_of}
use Rattle.metrics_text.specs.Samples.{link_labels, priorities}
use Rattle.metrics_text.proofs.links.put_priorities.Given as goal

abbrev pub invariant-loop-priority : goal.invariant-loop-priority
invariant-loop-priority l = l.text.items ++ lines_of l.metric (priorities (link_labels l.nodes l.link) l.priority (drop l.priority l.lefts)) ≡ l.fn.text.items ++ lines_of l.metric (priorities (link_labels l.nodes l.link) 0 l.lefts)
