use Rattle.std.proofs.Common.{◌≤◌, ◌-◌, length}
use Rattle.bandwidth_book.specs.Reservation.{place_in}
use Rattle.bandwidth_book.proofs.entry.place_of.Given as goal

abbrev pub invariant-loop-low : goal.invariant-loop-low
invariant-loop-low l = record {
  after : l.low ≤ place_in l.one l.held;
  before : place_in l.one l.held ≤ l.high;
  within : l.high ≤ length l.held;
}

abbrev pub decreases-loop-low : goal.decreases-loop-low
decreases-loop-low l = l.high - l.low
