use Rattle.std.proofs.Common.{◌≡◌, ◌++◌, drop, map}
use Rattle.metrics_text.specs.Rows.{lines_of}
use Rattle.metrics_text.specs.Samples.{link_reservable}
use Rattle.metrics_text.proofs.links.put_reservable.Given as goal

abbrev pub invariant-loop-link : goal.invariant-loop-link
invariant-loop-link l = l.text.items ++ lines_of l.metric (map (link_reservable l.nodes) (drop l.link-index l.links)) ≡ l.fn.text.items ++ lines_of l.metric (map (link_reservable l.nodes) l.links)
