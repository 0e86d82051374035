use Rattle.std.proofs.Common.{◌≡◌, ℕ, true, take, All}
use Rattle.te_snapshot.specs.Pages.{is_marked}
use Rattle.bandwidth_book.proofs.snapshots.mark_paths.Given as goal

abbrev pub invariant-loop-path : goal.invariant-loop-path
invariant-loop-path l = record {
  marked : All (λ x. All (λ k. is_marked l.marks k ≡ true) x.links) (take l.path-index l.paths);
  kept : (k : ℕ) → is_marked l.fn.marks k ≡ true → is_marked l.marks k ≡ true;
}
