-- At most ten lines of one kind are written in a second; the others are counted.
use Rattle.std.specs.Prelude.{ℕ, ◌+◌, ◌-◌, ◌%◌, ◌^◌, min, Bool, true, replicate, Option, Some, None, nat_le, slice_get, slice_set}
use Rattle.server_rules.specs.declared.log_rate.LineRate.{LineRate}

abbrev pub blank : LineRate
blank = record { last = replicate 10 None; tenth = 0; withheld = 0 }

-- a second or more has passed since this line, or there was none
abbrev pub is_past : ℕ → Option (Option ℕ) → Bool
is_past now_ms (Some (Some line_ms)) = nat_le 1000 (now_ms - line_ms)
is_past now_ms _ = true

-- a line may be written if the tenth before it was written a second or more before
abbrev pub may_say : LineRate → ℕ → Bool
may_say rate now_ms = is_past now_ms (slice_get rate.last (rate.tenth % 10))

-- a line was written, and takes the place of the tenth before it; nothing is withheld any more
abbrev pub said : LineRate → ℕ → LineRate
said rate now_ms =
    record { last = slice_set rate.last (rate.tenth % 10) (Some now_ms); tenth = (rate.tenth % 10 + 1) % 10; withheld = 0 }

-- a line was withheld; the count stops at the greatest number of 64 bits
abbrev pub one_withheld : LineRate → LineRate
one_withheld rate = record rate { withheld = min (rate.withheld + 1) (2 ^ 64 - 1) }
