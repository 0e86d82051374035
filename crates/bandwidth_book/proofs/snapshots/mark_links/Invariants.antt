use Rattle.std.proofs.Common.{◌≡◌, ℕ, true, take, All}
use Rattle.te_snapshot.specs.Pages.{is_marked}
use Rattle.bandwidth_book.proofs.snapshots.mark_links.Given as goal

abbrev pub invariant-loop-link : goal.invariant-loop-link
invariant-loop-link l = record {
  marked : All (λ k. is_marked l.marks k ≡ true) (take l.link-index l.links);
  kept : (k : ℕ) → is_marked l.fn.marks k ≡ true → is_marked l.marks k ≡ true;
}
