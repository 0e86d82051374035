-- What a snapshot holds, wherever it is in memory.
use Rattle.std.specs.Prelude.{◌≡◌, length}
use Rattle.std.specs.Arc.{arc_value}
use Rattle.te_snapshot.specs.declared.snapshot.Snapshot.TheInside.{Inside}
use Rattle.te_snapshot.specs.Network.{NetworkState, state_of}

abbrev pub state_in : Inside → NetworkState
state_in s = state_of (arc_value (arc_value s.shared).topology) (arc_value s.shared).unreserved

-- each link has a row of numbers
abbrev pub IsWhole : Inside → Type 0
IsWhole s = length (arc_value s.shared).unreserved ≡ length (arc_value (arc_value s.shared).topology).links
