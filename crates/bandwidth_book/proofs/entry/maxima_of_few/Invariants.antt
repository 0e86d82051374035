use Rattle.std.proofs.Common.{◌≡◌, ◌<◌, ℕ, slice_index, max, drop}
use Rattle.bandwidth_book.specs.Reservation.{most}
use Rattle.bandwidth_book.proofs.entry.maxima_of_few.Given as goal

abbrev pub invariant-loop-one : goal.invariant-loop-one
invariant-loop-one l = (p : ℕ) → p < 8 → max (slice_index l.maxima p) (most (drop l.one-index l.held) p) ≡ most l.held p
