use Rattle.std.proofs.Common.{◌≡◌, ◌<◌, ◌+◌, ◌*◌, ℕ, length, slice_get, if◌then◌else◌}
use Rattle.te_snapshot.specs.Pages.{is_row_marked, left_beside, row_in}
use Rattle.te_snapshot.proofs.table.pages_now.Given as goal

abbrev pub invariant-loop-page : goal.invariant-loop-page
invariant-loop-page l = record {
  long : length l.pages.items ≡ l.page;
  done : (page : ℕ) → page < l.page → (place : ℕ) → place < 64 → 64 * page + place < length l.links
      → row_in (slice_get l.pages.items page) place ≡ (if is_row_marked l.marks page place then left_beside l.links l.sums (64 * page + place) else row_in (slice_get l.standing page) place);
}
