use Rattle.std.proofs.Common.{◌≡◌, ◌++◌, drop, map}
use Rattle.metrics_text.specs.Rows.{lines_of}
use Rattle.metrics_text.specs.Samples.{state_count}
use Rattle.metrics_text.proofs.database.put_states.Given as goal

abbrev pub invariant-loop-state : goal.invariant-loop-state
invariant-loop-state l = l.text.items ++ lines_of l.metric (map (state_count l.states) (drop l.state-index l.each)) ≡ l.fn.text.items ++ lines_of l.metric (map (state_count l.states) l.each)
