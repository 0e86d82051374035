use Rattle.std.proofs.Common.{◌≡◌, ◌≤◌, length, take}
use Rattle.std.specs.Prelude.{filter}
use Rattle.metrics_text.specs.Samples.{is_in}
use Rattle.metrics_text.proofs.database.number_in.Given as goal

abbrev pub invariant-loop-shown : goal.invariant-loop-shown
invariant-loop-shown l = record {
  counted : l.count ≡ length (filter (is_in l.fn.state) (take l.shown-index l.states));
  few : l.count ≤ l.shown-index;
}
