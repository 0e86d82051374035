use Rattle.std.proofs.Common.{◌≡◌, ◌≤◌, length, take}
use Rattle.std.specs.Prelude.{filter}
use Rattle.database_looks.proofs.counts.sessions_up.Given as goal

abbrev pub invariant-loop-peer : goal.invariant-loop-peer
invariant-loop-peer l = record {
  counted : l.count ≡ length (filter (λ p. p.up) (take l.peer-index l.peers));
  few : l.count ≤ l.peer-index;
}
