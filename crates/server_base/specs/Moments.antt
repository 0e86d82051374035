-- The moments that a run shows.
use Rattle.std.specs.Prelude.{◌≡◌, ◌⊎◌, ℕ, ◌-◌, ◌/◌, ◌^◌, min, Option, Some}
use Rattle.std.specs.Time.{instant_nanos}
use Rattle.std.specs.declared.time.Instant.{Instant}

-- The nanoseconds from the start of the run to a reading of its clock; 0 if it has no clock, or reading the clock
-- fails.
abbrev pub HasRun : Option Instant → ℕ → Type 0
HasRun start nanos = (nanos ≡ 0) ⊎ ((begun now : Instant) × (start ≡ Some begun) × (nanos ≡ instant_nanos now - instant_nanos begun))

-- The moment in milliseconds since the run began; it stops at the greatest number of 64 bits
abbrev pub IsMoment : Option Instant → ℕ → Type 0
IsMoment start ms = (nanos : ℕ) × HasRun start nanos × (ms ≡ min (nanos / 1000000) (2 ^ 64 - 1))
