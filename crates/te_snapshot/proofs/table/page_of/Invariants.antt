use Rattle.std.proofs.Common.{◌≡◌, ◌<◌, ◌+◌, ◌*◌, ℕ, length}
use Rattle.te_snapshot.specs.Pages.{row}
use Rattle.te_snapshot.proofs.table.page_of.Given as goal

abbrev pub invariant-loop-place : goal.invariant-loop-place
invariant-loop-place l = record {
  long : length l.rows ≡ 64;
  done : (k : ℕ) → k < l.place → 64 * l.page + k < length l.table → row l.rows k ≡ row l.table (64 * l.page + k);
}
