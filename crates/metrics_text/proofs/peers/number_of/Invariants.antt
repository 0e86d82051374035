use Rattle.std.proofs.Common.{◌≡◌, ◌≤◌, length, take}
use Rattle.std.specs.Prelude.{filter}
use Rattle.metrics_text.specs.Samples.{is_of_peer}
use Rattle.metrics_text.proofs.peers.number_of.Given as goal

abbrev pub invariant-loop-shown : goal.invariant-loop-shown
invariant-loop-shown l = record {
  counted : l.count ≡ length (filter (is_of_peer l.fn.peer l.fn.state) (take l.shown-index l.states));
  few : l.count ≤ l.shown-index;
}
