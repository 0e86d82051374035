use Rattle.std.proofs.Common.{◌≡◌, ◌+◌, drop}
use Rattle.server_counts.specs.Times.{first_not_below}
use Rattle.server_counts.proofs.histogram.first_not_below.Given as goal

-- the bounds so far are below the time
abbrev pub invariant-loop-at : goal.invariant-loop-at
invariant-loop-at l = first_not_below l.bounds l.us ≡ l.at + first_not_below (drop l.at l.bounds) l.us
