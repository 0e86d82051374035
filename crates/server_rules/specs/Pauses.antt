-- How long reading from a connection pauses if its router reports LSPs as DOWN again and again.
use Rattle.std.specs.Prelude.{◌==◌, ℕ, ◌*◌, ◌-◌, min, Bool, true, false, not, nat_lt, ◌&&◌, ◌||◌, List, [], ◌∷◌, ◌++◌, filter, length, Option, Some, None, if◌then◌else◌}
use Rattle.std.specs.List.{find}
use Rattle.server_rules.specs.Pendings.{has_passed}
use Rattle.server_rules.specs.declared.pausing.PauseHappening.{PauseHappening}
use Rattle.server_rules.specs.declared.pausing.PauseHappening.TheVariants.{Granted, Down, CameUp}
use Rattle.server_rules.specs.declared.pausing.Trial.{Trial}
use Rattle.server_rules.specs.declared.pausing.Pausing.{Pausing}

-- what is known about a connection: the LSPs that were granted a path or failed within the last ten seconds, and the
-- pauses
pub record Paused : Type 0 where
  pub trials : List Trial
  pub pausing : Pausing

abbrev pub calm : Paused
calm = record { trials = []; pausing = record { pause_ms = 0; since_ms = 0; line_ms = None } }

-- what was noted about an LSP counts for ten seconds
abbrev pub is_recent : ℕ → Trial → Bool
is_recent now_ms t = not (has_passed t.at_ms now_ms 10000)

abbrev pub counts_of : ℕ → ℕ → Trial → Bool
counts_of plsp now_ms t = t.plsp == plsp && is_recent now_ms t

abbrev pub trial_of : ℕ → ℕ → List Trial → Option Trial
trial_of plsp now_ms ts = find (counts_of plsp now_ms) ts

abbrev pub failed_of : Option Trial → Option ℕ
failed_of None = None
failed_of (Some t) = t.failed_ms

abbrev pub granted : ℕ → ℕ → Option Trial → Trial
granted plsp now_ms t = record { plsp = plsp; at_ms = now_ms; is_granted = true; failed_ms = failed_of t }

abbrev pub failed : ℕ → ℕ → Trial
failed plsp now_ms = record { plsp = plsp; at_ms = now_ms; is_granted = false; failed_ms = Some now_ms }

abbrev pub is_other : Trial → Trial → Bool
is_other t u = not (u.plsp == t.plsp) && is_recent t.at_ms u

-- the other LSPs for which something still counts
abbrev pub others : Trial → List Trial → List Trial
others t ts = filter (is_other t) ts

-- at most 64 LSPs are watched; another one isn't while all of them still count
abbrev pub with_trial : Trial → List Trial → List Trial
with_trial t ts = if nat_lt (length (others t ts)) 64 then others t ts ++ t ∷ [] else others t ts

-- it failed within the ten seconds before
abbrev pub fails_since : ℕ → Option ℕ → Bool
fails_since now_ms None = false
fails_since now_ms (Some failed_ms) = not (has_passed failed_ms now_ms 10000)

abbrev pub fails_again : ℕ → Trial → Bool
fails_again now_ms t = fails_since now_ms t.failed_ms

-- a line says so once a minute
abbrev pub is_due_after : ℕ → Option ℕ → Bool
is_due_after now_ms None = true
is_due_after now_ms (Some line_ms) = has_passed line_ms now_ms 60000

abbrev pub is_line_due : ℕ → Pausing → Bool
is_line_due now_ms p = is_due_after now_ms p.line_ms

-- 0.1 s at first, and again if a minute has passed since the last one; otherwise twice as long each time, up to 5 s
abbrev pub paused : ℕ → Pausing → Pausing
paused now_ms p = record {
  pause_ms = if p.pause_ms == 0 || has_passed p.since_ms now_ms 60000 then 100 else min (p.pause_ms * 2) 5000;
  since_ms = now_ms;
  line_ms = if is_line_due now_ms p then Some now_ms else p.line_ms;
}

abbrev pub ended : Pausing → Pausing
ended p = record p { pause_ms = 0 }

-- an LSP that was granted a path fails if it is reported DOWN; if it had failed within the ten seconds before, a pause
-- begins
abbrev pub after_down : ℕ → ℕ → Option Trial → Paused → Paused
after_down plsp now_ms None k = k
after_down plsp now_ms (Some t) k =
    if t.is_granted then record {
      trials = with_trial (failed plsp now_ms) k.trials;
      pausing = if fails_again now_ms t then paused now_ms k.pausing else k.pausing;
    } else k

abbrev pub after : PauseHappening → Paused → Paused
after (Granted plsp now_ms) k = record k { trials = with_trial (granted plsp now_ms (trial_of plsp now_ms k.trials)) k.trials }
after (Down plsp now_ms) k = after_down plsp now_ms (trial_of plsp now_ms k.trials) k
after CameUp k = record { trials = []; pausing = ended k.pausing }

-- what is known about a connection, given all that happened, the latest first
abbrev pub pause_from : List PauseHappening → Paused
pause_from [] = calm
pause_from (h ∷ past) = after h (pause_from past)

-- a line should say that a pause begins
abbrev pub says_after_down : ℕ → Option Trial → Pausing → Bool
says_after_down now_ms None p = false
says_after_down now_ms (Some t) p = t.is_granted && fails_again now_ms t && is_line_due now_ms p

abbrev pub says : PauseHappening → Paused → Bool
says (Granted plsp now_ms) k = false
says (Down plsp now_ms) k = says_after_down now_ms (trial_of plsp now_ms k.trials) k.pausing
says CameUp k = false

-- no wait goes past the moment at which the peer's DeadTimer is due
abbrev pub before_dead : ℕ → Option ℕ → ℕ → ℕ
before_dead now_ms None wait_ms = wait_ms
before_dead now_ms (Some dead_ms) wait_ms = min wait_ms (dead_ms - now_ms)

-- how long reading must still wait
abbrev pub wait_ms : ℕ → Option ℕ → Pausing → ℕ
wait_ms now_ms dead_ms p = before_dead now_ms dead_ms (p.pause_ms - (now_ms - p.since_ms))
