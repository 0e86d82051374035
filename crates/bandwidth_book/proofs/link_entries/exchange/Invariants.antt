use Rattle.std.proofs.Common.{◌≡◌, ◌<◌, ◌≤◌, ◌+◌, ℕ, slice_index}
use Rattle.bandwidth_book.proofs.link_entries.exchange.Given as goal

abbrev pub invariant-loop-place : goal.invariant-loop-place
invariant-loop-place l = record {
  done : (p : ℕ) → p < l.place → slice_index l.sums p + slice_index l.before p ≡ slice_index l.fn.sums p + slice_index l.after p;
  rest : (p : ℕ) → l.place ≤ p → p < 8 → slice_index l.sums p ≡ slice_index l.fn.sums p;
}
