-- What is counted for a worker's turn: its steps, its times, and the step by which it took the ticket in its hand.
use Rattle.std.specs.Prelude.{ℕ, Bool, true, false, Option, Some, None}
use Rattle.pce_seen.specs.declared.steps.EventKind.TheVariants as event
use Rattle.server_base.specs.Counting.{turn_counted}
use Rattle.server_counts.specs.Counts.{added, timed}
use Rattle.server_counts.specs.declared.counters.Counters.{Counters}
use Rattle.server_counts.specs.declared.counters.Timed.TheVariants.{Search, Wait}
use Rattle.server_counts.specs.declared.kinds.Counted.TheVariants.{Step}
use Rattle.history_core.specs.declared.step.Brief.TheVariants as brief
use Rattle.server_workers.specs.declared.workers.TurnTimes.{TurnTimes}
use Rattle.shared_pce.specs.declared.work.Worked.{Worked}

-- counts how long a settled ticket waited
abbrev pub wait_counted : Option ℕ → Counters → Counters
wait_counted None c = c
wait_counted (Some us) c = timed Wait us c

-- counts how long the search took, and the wait of its ticket
abbrev pub times_counted : Option TurnTimes → Counters → Counters
times_counted None c = c
times_counted (Some times) c = wait_counted times.wait_us (timed Search times.search_us c)

-- counts the ticket whose job is in the hand
abbrev pub hand_counted : Bool → Counters → Counters
hand_counted false c = c
hand_counted true c = added (Step event.Take (brief.Job 0)) c

-- counts all of a turn that began and ended with a job in the hand or without one
abbrev pub all_of_turn : Bool → Bool → Worked → Option TurnTimes → Counters → Counters
all_of_turn had_job has_job worked times c = hand_counted has_job (times_counted times (turn_counted had_job worked c))
