use Rattle.std.proofs.Common.{◌≡◌, ◌++◌, drop}
use Rattle.std.specs.List.{flat_map}
use Rattle.metrics_text.specs.Rows.{lines_of}
use Rattle.metrics_text.specs.Samples.{step}
use Rattle.metrics_text.proofs.counts.put_event_steps.Given as goal

abbrev pub invariant-loop-reply : goal.invariant-loop-reply
invariant-loop-reply l = l.text.items ++ lines_of l.metric (flat_map (step l.counters l.event) (drop l.reply-index l.replies)) ≡ l.fn.text.items ++ lines_of l.metric (flat_map (step l.counters l.event) l.replies)
