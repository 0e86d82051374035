use Rattle.std.proofs.Common.{◌≡◌, ◌++◌, drop}
use Rattle.metrics_text.specs.Rows.{lines_of}
use Rattle.metrics_text.specs.Samples.{buckets, total_of}
use Rattle.metrics_text.proofs.times.put_buckets.Given as goal

abbrev pub invariant-loop-at : goal.invariant-loop-at
invariant-loop-at l = record {
  lines : l.text.items ++ lines_of l.metric (buckets l.limits l.at (drop l.at l.numbers) l.total) ≡ l.fn.text.items ++ lines_of l.metric (buckets l.limits 0 l.numbers 0);
  total : total_of (drop l.at l.numbers) l.total ≡ total_of l.numbers 0;
}
