use Rattle.std.proofs.Common.{◌≡◌, ◌++◌, drop}
use Rattle.std.specs.List.{flat_map}
use Rattle.metrics_text.specs.Rows.{lines_of}
use Rattle.metrics_text.specs.Samples.{error}
use Rattle.metrics_text.proofs.counts.put_type_errors.Given as goal

abbrev pub invariant-loop-value : goal.invariant-loop-value
invariant-loop-value l = l.text.items ++ lines_of l.metric (flat_map (error l.counters l.way l.kind) (drop l.value-index l.values)) ≡ l.fn.text.items ++ lines_of l.metric (flat_map (error l.counters l.way l.kind) l.values)
