use Rattle.std.proofs.Common.{◌≡◌, ◌++◌, drop}
use Rattle.std.specs.List.{flat_map}
use Rattle.metrics_text.specs.Rows.{lines_of}
use Rattle.metrics_text.specs.Samples.{type_errors}
use Rattle.metrics_text.proofs.counts.put_errors.Given as goal

abbrev pub invariant-loop-kind : goal.invariant-loop-kind
invariant-loop-kind l = l.text.items ++ lines_of l.metric (flat_map (type_errors l.counters l.way l.values) (drop l.kind-index l.kinds)) ≡ l.fn.text.items ++ lines_of l.metric (flat_map (type_errors l.counters l.way l.values) l.kinds)
