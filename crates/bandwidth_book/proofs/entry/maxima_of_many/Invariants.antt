use Rattle.std.proofs.Common.{◌≡◌, ◌<◌, ℕ, slice_index, length}
use Rattle.bandwidth_book.specs.Reservation.{most, most_below}
use Rattle.bandwidth_book.proofs.entry.maxima_of_many.Given as goal

abbrev pub invariant-loop-priority : goal.invariant-loop-priority
invariant-loop-priority l = record {
  long : length l.maxima ≡ 8;
  below : l.greatest ≡ most_below l.held l.priority;
  done : (p : ℕ) → p < l.priority → slice_index l.maxima p ≡ most l.held p;
}
