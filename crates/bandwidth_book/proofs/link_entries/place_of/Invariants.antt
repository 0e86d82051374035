use Rattle.std.proofs.Common.{◌≤◌, ◌-◌, length}
use Rattle.bandwidth_book.specs.Entries.{place_on}
use Rattle.bandwidth_book.proofs.link_entries.place_of.Given as goal

abbrev pub invariant-loop-low : goal.invariant-loop-low
invariant-loop-low l = record {
  after : l.low ≤ place_on l.link l.entries;
  before : place_on l.link l.entries ≤ l.high;
  within : l.high ≤ length l.entries;
}

abbrev pub decreases-loop-low : goal.decreases-loop-low
decreases-loop-low l = l.high - l.low
