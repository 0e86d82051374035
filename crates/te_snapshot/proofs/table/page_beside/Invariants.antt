use Rattle.std.proofs.Common.{◌≡◌, ◌<◌, ◌≤◌, ◌+◌, ◌*◌, ℕ, true, length, if◌then◌else◌, slice_index_or}
use Rattle.te_snapshot.specs.Pages.{left_beside, row}
use Rattle.te_snapshot.proofs.table.page_beside.Given as goal

abbrev pub invariant-loop-place : goal.invariant-loop-place
invariant-loop-place l = record {
  long : length l.rows ≡ 64;
  done : (k : ℕ) → k < l.place → 64 * l.page + k < length l.links
      → row l.rows k ≡ (if slice_index_or l.marked k true then left_beside l.links l.sums (64 * l.page + k) else row l.standing k);
  stand : (k : ℕ) → l.place ≤ k → row l.rows k ≡ row l.standing k;
}
