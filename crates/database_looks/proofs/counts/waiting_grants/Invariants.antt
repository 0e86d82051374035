use Rattle.std.proofs.Common.{◌≡◌, ◌≤◌, length, take, None}
use Rattle.std.specs.Prelude.{filter}
use Rattle.pce_seen.specs.Grants.{is_grant_asked}
use Rattle.database_looks.proofs.counts.waiting_grants.Given as goal

abbrev pub invariant-loop-path : goal.invariant-loop-path
invariant-loop-path l = record {
  counted : l.count ≡ length (filter (is_grant_asked None) (take l.path-index l.paths));
  few : l.count ≤ l.path-index;
}
