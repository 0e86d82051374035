use Rattle.std.proofs.Common.{◌≤◌, ◌-◌, length}
use Rattle.bandwidth_book.specs.Reservation.{end_in}
use Rattle.bandwidth_book.proofs.entry.end_of.Given as goal

abbrev pub invariant-loop-low : goal.invariant-loop-low
invariant-loop-low l = record {
  after : l.low ≤ end_in l.one l.held;
  before : end_in l.one l.held ≤ l.high;
  within : l.high ≤ length l.held;
}

abbrev pub decreases-loop-low : goal.decreases-loop-low
decreases-loop-low l = l.high - l.low
