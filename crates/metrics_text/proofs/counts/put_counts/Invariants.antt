use Rattle.std.proofs.Common.{◌≡◌, ◌++◌, drop, map}
use Rattle.metrics_text.specs.Rows.{lines_of}
use Rattle.metrics_text.specs.Samples.{count}
use Rattle.metrics_text.proofs.counts.put_counts.Given as goal

abbrev pub invariant-loop-what : goal.invariant-loop-what
invariant-loop-what l = l.text.items ++ lines_of l.metric (map (count l.counters) (drop l.what-index l.whats)) ≡ l.fn.text.items ++ lines_of l.metric (map (count l.counters) l.whats)
