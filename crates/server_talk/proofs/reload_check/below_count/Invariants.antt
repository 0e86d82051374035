use Rattle.std.proofs.Common.{◌≡◌, ◌≤◌, ◌+◌, drop}
use Rattle.server_talk.specs.ReloadChecks.{below_count}
use Rattle.server_talk.proofs.reload_check.below_count.Given as goal

-- the number so far and that of the remaining entries make the whole
abbrev pub invariant-loop-entry : goal.invariant-loop-entry
invariant-loop-entry l = record {
  few : l.count ≤ l.entry-index;
  whole : l.count + below_count l.values l.left (drop l.entry-index l.entries) ≡ below_count l.values l.left l.entries;
}
