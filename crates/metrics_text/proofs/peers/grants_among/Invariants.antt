use Rattle.std.proofs.Common.{◌≡◌, ◌≤◌, length, take}
use Rattle.std.specs.Prelude.{filter}
use Rattle.metrics_text.specs.Samples.{is_owner}
use Rattle.metrics_text.proofs.peers.grants_among.Given as goal

abbrev pub invariant-loop-owner : goal.invariant-loop-owner
invariant-loop-owner l = record {
  counted : l.count ≡ length (filter (is_owner l.fn.peer) (take l.owner-index l.owners));
  few : l.count ≤ l.owner-index;
}
