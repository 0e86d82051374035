use Rattle.std.proofs.Common.{◌≡◌, ◌≤◌, ◌-◌, length, drop}
use Rattle.std.specs.List.{fold}
use Rattle.server_counts.specs.Streams.{heard}
use Rattle.server_counts.proofs.stream.MessageStream.hear.Given as goal

-- the remaining bytes turn what was counted so far into what all bytes make of the beginning
abbrev pub invariant-loop-at : goal.invariant-loop-at
invariant-loop-at l = record {
  in_range : l.at ≤ length l.bytes;
  same : fold (heard l.fn.way) (l.self, l.counters) (drop l.at l.bytes) ≡ fold (heard l.fn.way) (l.fn.self, l.fn.counters) l.bytes;
}

abbrev pub decreases-loop-at : goal.decreases-loop-at
decreases-loop-at l = length l.bytes - l.at
