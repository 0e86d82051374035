use Rattle.std.proofs.Common.{ap}
use Rattle.std.proofs.lemmas.List.{drop_more}
use Rattle.std.specs.List.{flat_map}
use Rattle.pce_seen.specs.declared.steps.EventKind.TheVariants.{Up}
use Rattle.metrics_text.specs.Samples.{event_steps}
use Rattle.metrics_text.proofs.Lines.{next}
use Rattle.metrics_text.proofs.counts.put_steps.Goals as goal

pub loop-event-preserved : goal.loop-event-preserved
loop-event-preserved c =
    next c.args.metric.now c.loop-event.text.items c.put_event_steps.new.text.items _ _ _ _
    (ap (flat_map (event_steps c.args.counters.now c.args.replies.now)) (drop_more c.args.events.now c.loop-event.event-index Up c.loop-event-test.true))
    c.in_ok-put_event_steps.ensures c.loop-event.invariant
