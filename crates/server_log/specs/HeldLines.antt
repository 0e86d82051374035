-- Which lines are held back: of each kind, at most a hundred are written in a second.
use Rattle.std.specs.Prelude.{ℕ, ◌≡◌, ◌==◌, ◌+◌, ◌-◌, ◌%◌, ◌^◌, ◌&&◌, not, min, nat_le, Bool, true, replicate, slice_get, slice_set, Option, Some, None, ⊤, if◌then◌else◌}
use Rattle.server_rules.specs.Lines.{is_past}
use Rattle.server_log.specs.LogLines.{kind_number}
use Rattle.server_log.specs.declared.held.Held.{Held}
use Rattle.server_log.specs.declared.held.KindRate.{KindRate}
use Rattle.server_log.specs.declared.kinds.Kind.{Kind}

abbrev pub blank : KindRate
blank = record { moments = replicate 100 None; oldest = 0; held = 0; held_since_ms = 0 }

-- a line may be written if the hundredth before it was written a second or more before
abbrev pub may_pass : ℕ → KindRate → Bool
may_pass now_ms rate = is_past now_ms (slice_get rate.moments (rate.oldest % 100))

-- it was written, and takes the place of the hundredth before it
abbrev pub passed : ℕ → KindRate → KindRate
passed now_ms rate =
    record rate { moments = slice_set rate.moments (rate.oldest % 100) (Some now_ms); oldest = (rate.oldest % 100 + 1) % 100 }

-- a line was held back; the count stops at the greatest number of 64 bits
abbrev pub one_held : ℕ → KindRate → KindRate
one_held now_ms rate =
    record rate { held = min (rate.held + 1) (2 ^ 64 - 1); held_since_ms = if rate.held == 0 then now_ms else rate.held_since_ms }

-- lines were held back, the first of them a second or more before
abbrev pub is_time : ℕ → KindRate → Bool
is_time now_ms rate = not (rate.held == 0) && nat_le 1000 (now_ms - rate.held_since_ms)

abbrev pub nothing_held : KindRate → KindRate
nothing_held rate = record rate { held = 0 }

-- the rate of a kind
abbrev pub rate_of : Kind → Held → Option KindRate
rate_of kind held = slice_get held.kinds.items (kind_number kind)

-- a line that is written was allowed to be
abbrev pub LetsThrough : ℕ → Option KindRate → Option KindRate → Type 0
LetsThrough now_ms None new = ⊤
LetsThrough now_ms (Some rate) new = (may_pass now_ms rate ≡ true) × (new ≡ Some (passed now_ms rate))

-- a line that isn't written is counted
abbrev pub HoldsBack : ℕ → Option KindRate → Option KindRate → Type 0
HoldsBack now_ms None new = ⊥
HoldsBack now_ms (Some rate) new = new ≡ Some (one_held now_ms rate)

abbrev pub told : ℕ → KindRate → Option ℕ
told now_ms rate = if is_time now_ms rate then Some rate.held else None

abbrev pub after_told : ℕ → KindRate → KindRate
after_told now_ms rate = if is_time now_ms rate then nothing_held rate else rate

-- how many lines were held back is told once, when it is time
abbrev pub Tells : ℕ → Option KindRate → Option ℕ → Option KindRate → Type 0
Tells now_ms None result new = result ≡ None
Tells now_ms (Some rate) result new = (result ≡ told now_ms rate) × (new ≡ Some (after_told now_ms rate))
