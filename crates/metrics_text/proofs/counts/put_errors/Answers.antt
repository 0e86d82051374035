use Rattle.std.proofs.Common.{ap}
use Rattle.std.proofs.lemmas.List.{drop_more}
use Rattle.std.specs.List.{flat_map}
use Rattle.metrics_text.specs.Samples.{type_errors}
use Rattle.metrics_text.proofs.Lines.{next}
use Rattle.metrics_text.proofs.counts.put_errors.Goals as goal

pub loop-kind-preserved : goal.loop-kind-preserved
loop-kind-preserved c =
    next c.args.metric.now c.loop-kind.text.items c.put_type_errors.new.text.items _ _ _ _
    (ap (flat_map (type_errors c.args.counters.now c.args.way c.args.values.now)) (drop_more c.args.kinds.now c.loop-kind.kind-index 0 c.loop-kind-test.true))
    c.in_ok-put_type_errors.ensures c.loop-kind.invariant
