-- What is counted for steps.
use Rattle.std.specs.Prelude.{Bool, true, false, List, [], ◌∷◌}
use Rattle.lsp_base.specs.Whys.{number_of}
use Rattle.step_core.specs.declared.event.Reply.{Reply}
use Rattle.step_core.specs.declared.event.Reply.TheVariants as reply
use Rattle.database_looks.specs.Steps.{kind_of}
use Rattle.engine_core.specs.declared.store.Call.{Call}
use Rattle.pce_seen.specs.declared.steps.EventKind.{EventKind}
use Rattle.pce_seen.specs.declared.steps.EventKind.TheVariants as event
use Rattle.server_counts.specs.Counts.{added}
use Rattle.server_counts.specs.declared.counters.Counters.{Counters}
use Rattle.server_counts.specs.declared.kinds.Counted.TheVariants.{Step, Refusal}
use Rattle.history_core.specs.Briefs.{brief_of}
use Rattle.history_core.specs.declared.step.Brief.TheVariants as brief
use Rattle.shared_pce.specs.declared.work.Worked.{Worked}
use Rattle.shared_pce.specs.declared.work.Worked.TheVariants as worked

-- a refusal is counted by its reason too
abbrev pub refusal_counted : Reply → Counters → Counters
refusal_counted (reply.Refused why) c = added (Refusal (number_of why)) c
refusal_counted _ c = c

abbrev pub step_counted : EventKind → Reply → Counters → Counters
step_counted event r c = refusal_counted r (added (Step event (brief_of r)) c)

-- each call is counted in turn
abbrev pub all_counted : List Call → Counters → Counters
all_counted [] c = c
all_counted (x ∷ xs) c = all_counted xs (step_counted (kind_of x.event) x.reply c)

-- a turn that found no job in hand took a ticket, unless none waited; then its search was committed
abbrev pub taken_counted : Bool → Counters → Counters
taken_counted true c = c
taken_counted false c = added (Step event.Take (brief.Job 0)) c

abbrev pub turn_counted : Bool → Worked → Counters → Counters
turn_counted had_job worked.Idle c = added (Step event.Take brief.Idle) c
turn_counted had_job (worked.Done job r) c = step_counted event.Commit r (taken_counted had_job c)
