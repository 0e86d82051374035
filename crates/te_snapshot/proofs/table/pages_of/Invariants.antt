use Rattle.std.proofs.Common.{◌≡◌, ◌<◌, ◌+◌, ◌*◌, ℕ, length, slice_get}
use Rattle.te_snapshot.specs.Pages.{row, row_in}
use Rattle.te_snapshot.proofs.table.pages_of.Given as goal

abbrev pub invariant-loop-page : goal.invariant-loop-page
invariant-loop-page l = record {
  long : length l.pages.items ≡ l.page;
  done : (page : ℕ) → page < l.page → (place : ℕ) → place < 64 → 64 * page + place < length l.table → row_in (slice_get l.pages.items page) place ≡ row l.table (64 * page + place);
}
