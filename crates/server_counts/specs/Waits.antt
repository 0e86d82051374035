-- How long tickets waited, from the request to the verdict.
use Rattle.std.specs.Prelude.{ℕ, ◌-◌, ◌%◌, nat_eq, set, get_or, replicate, Option, Some, None, if◌then◌else◌}
use Rattle.server_counts.specs.declared.waits.Moment.{Moment}
use Rattle.server_counts.specs.declared.waits.Moment.TheVariants.{Nothing, Asked, Settled}
use Rattle.server_counts.specs.declared.waits.Waits.{Waits}

abbrev pub nothing_asked : Waits
nothing_asked = record { moments = replicate 1024 Nothing }

-- what is known at the place of a ticket; it may be of another ticket
abbrev pub moment_of : Waits → ℕ → Moment
moment_of w ticket = get_or w.moments (ticket % 1024) Nothing

-- the wait of a ticket that is asked for now, if it was settled before: no time
abbrev pub wait_before : Moment → ℕ → ℕ → Option ℕ
wait_before (Settled ticket at_us) number now_us = if nat_eq ticket number then Some (at_us - now_us) else None
wait_before _ number now_us = None

-- the wait of a ticket that is settled now, since it was asked for
abbrev pub wait_behind : Moment → ℕ → ℕ → Option ℕ
wait_behind (Asked ticket at_us) number now_us = if nat_eq ticket number then Some (now_us - at_us) else None
wait_behind _ number now_us = None

-- the place is free again after both are known
abbrev pub until_known : Option ℕ → Moment → Moment
until_known None m = m
until_known (Some wait) m = Nothing

abbrev pub asked : ℕ → ℕ → Waits → Waits
asked ticket now_us w = record { moments = set w.moments (ticket % 1024) (until_known (wait_before (moment_of w ticket) ticket now_us) (Asked ticket now_us)) }

abbrev pub settled : ℕ → ℕ → Waits → Waits
settled ticket now_us w = record { moments = set w.moments (ticket % 1024) (until_known (wait_behind (moment_of w ticket) ticket now_us) (Settled ticket now_us)) }
