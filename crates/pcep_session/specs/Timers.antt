-- When a session's timers are due (RFC 5440 sections 6.2, 6.3 and 7.3).
use Rattle.std.specs.Prelude.{◌≡◌, ◌<◌, ◌^◌, ℕ, Bool, false, not, nat_lt, Option, Some, None, is_some}
use Rattle.pcep_session.specs.Turns.{due_in}
use Rattle.pcep_session.specs.declared.contents.Contents.{Contents}

-- a timer is due at this moment, if nothing comes or goes until then
abbrev pub is_due_at : ℕ → Contents → Bool
is_due_at moment_ms c = is_some (due_in (record c { moment_ms = moment_ms }))

-- the moment that a timer waits for has come by this moment
abbrev pub is_reached : Option ℕ → ℕ → Bool
is_reached None moment_ms = false
is_reached (Some due_ms) moment_ms = not (nat_lt moment_ms due_ms)

-- Of all moments that a clock shows, this is the first at which a timer is due; None: there is none.
abbrev pub IsNextDue : Option ℕ → Contents → Type 0
IsNextDue next c = (moment_ms : ℕ) → moment_ms < 2 ^ 64 → is_reached next moment_ms ≡ is_due_at moment_ms c
