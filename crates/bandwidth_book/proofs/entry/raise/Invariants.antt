use Rattle.std.proofs.Common.{◌≡◌, ◌<◌, ◌≤◌, ℕ, slice_index, max, nat_le, if◌then◌else◌}
use Rattle.bandwidth_book.proofs.entry.raise.Given as goal

abbrev pub invariant-loop-priority : goal.invariant-loop-priority
invariant-loop-priority l = record {
  done : (p : ℕ) → p < l.priority → slice_index l.maxima p ≡ max (if nat_le l.held.hold p then l.held.bandwidth else 0) (slice_index l.fn.maxima p);
  rest : (p : ℕ) → l.priority ≤ p → p < 8 → slice_index l.maxima p ≡ slice_index l.fn.maxima p;
}
