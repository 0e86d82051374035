use Rattle.std.proofs.Common.{◌≡◌, ◌≤◌, length, take}
use Rattle.std.specs.Prelude.{filter}
use Rattle.pce_seen.proofs.paging.full_at.Given as goal

abbrev pub invariant-loop-size : goal.invariant-loop-size
invariant-loop-size g l = record {
  counted : l.count ≡ length (filter (g.R.Test.passes l.rule) (take l.size l.items));
  few : l.count ≤ 256;
}
