use Rattle.std.proofs.Common.{[], ap}
use Rattle.std.proofs.lemmas.List.{drop_more}
use Rattle.metrics_text.specs.Samples.{unreserved_from}
use Rattle.metrics_text.proofs.Lines.{next}
use Rattle.metrics_text.proofs.links.put_unreserved.Goals as goal

pub loop-number-preserved : goal.loop-number-preserved
loop-number-preserved c =
    next c.args.metric.now c.loop-number.text.items c.put_link_unreserved.new.text.items _ _ _ _
    (ap (unreserved_from c.args.nodes.now c.args.links.now c.loop-number.number) (drop_more c.args.lefts.now c.loop-number.number [] c.loop-number-test.true))
    c.in_ok-put_link_unreserved.ensures c.loop-number.invariant
