use Rattle.std.proofs.Common.{◌≡◌, ◌<◌, ◌≤◌, ℕ, slice_index, max}
use Rattle.bandwidth_book.proofs.entry.raise_to.Given as goal

abbrev pub invariant-loop-priority : goal.invariant-loop-priority
invariant-loop-priority l = record {
  done : (p : ℕ) → p < l.priority → slice_index l.maxima p ≡ max (slice_index l.fn.maxima p) (slice_index l.others p);
  rest : (p : ℕ) → l.priority ≤ p → p < 8 → slice_index l.maxima p ≡ slice_index l.fn.maxima p;
}
