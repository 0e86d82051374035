use Rattle.std.proofs.Common.{◌≡◌, ◌++◌, drop}
use Rattle.std.specs.List.{flat_map}
use Rattle.metrics_text.specs.Rows.{lines_of}
use Rattle.metrics_text.specs.Samples.{event_steps}
use Rattle.metrics_text.proofs.counts.put_steps.Given as goal

abbrev pub invariant-loop-event : goal.invariant-loop-event
invariant-loop-event l = l.text.items ++ lines_of l.metric (flat_map (event_steps l.counters l.replies) (drop l.event-index l.events)) ≡ l.fn.text.items ++ lines_of l.metric (flat_map (event_steps l.counters l.replies) l.events)
