-- What an accepted call says about a session, and about its router's paths and LSPs.
use Rattle.std.specs.Prelude.{ℕ, Option, Some, None, is_some, if◌then◌else◌}
use Rattle.lsp_base.specs.Whys.{number_of}
use Rattle.path_sayings.specs.Sayings.{operational_of, path_event, replaced_in}
use Rattle.pcep_messages.specs.declared.message.StateReport.{StateReport}
use Rattle.server_rules.specs.declared.connection_notes.SessionHappening.{SessionHappening}
use Rattle.server_rules.specs.declared.connection_notes.SessionHappening.TheVariants.{CameUp, Refused, WentDown}
use Rattle.server_rules.specs.declared.path_word.Operational.{Operational}
use Rattle.server_rules.specs.declared.path_word.Operational.TheVariants as operational
use Rattle.server_rules.specs.declared.path_word.PathHappening.{PathHappening}
use Rattle.server_rules.specs.declared.pausing.PauseHappening.{PauseHappening}
use Rattle.server_rules.specs.declared.pausing.PauseHappening.TheVariants as pause
use Rattle.server_rules.specs.declared.retry.RouterLsp.{RouterLsp}
use Rattle.step_core.specs.declared.event.Event.{Event}
use Rattle.step_core.specs.declared.event.Event.TheVariants as event
use Rattle.step_core.specs.declared.event.Reply.{Reply}
use Rattle.step_core.specs.declared.event.Reply.TheVariants as reply

-- ---- about the session

abbrev pub session_happening : Event → Reply → ℕ → Option SessionHappening
session_happening (event.Up peer capabilities) reply.Done now_ms = Some (CameUp now_ms)
session_happening (event.Up peer capabilities) (reply.Refused why) now_ms = Some (Refused (number_of why))
session_happening (event.Down peer) (reply.Refused why) now_ms = None
session_happening (event.Down peer) other now_ms = Some WentDown
session_happening other reply now_ms = None

-- ---- about a request

abbrev pub answering : StateReport → Option StateReport
answering report = if is_some report.srp then Some report else None

-- the report in an event, if it answers a request
abbrev pub answer_in : Event → Option StateReport
answer_in (event.Report peer report) = answering report
answer_in other = None

abbrev pub answer_of : Event → Reply → Option StateReport
answer_of e (reply.Refused why) = None
answer_of e other = answer_in e

-- ---- about a path

-- a call that was refused says nothing
abbrev pub path_happening : Event → Reply → Option PathHappening
path_happening event (reply.Refused why) = None
path_happening event other = path_event event

abbrev pub replaced_lsp : Event → Reply → Option RouterLsp
replaced_lsp event (reply.Refused why) = None
replaced_lsp event other = replaced_in event

-- ---- about what was tried

abbrev pub trial_in : Operational → ℕ → ℕ → Option PauseHappening
trial_in operational.Down plsp now_ms = Some (pause.Down plsp now_ms)
trial_in operational.Up plsp now_ms = Some pause.CameUp
trial_in operational.Active plsp now_ms = Some pause.CameUp
trial_in operational.GoingDown plsp now_ms = None
trial_in operational.GoingUp plsp now_ms = None

abbrev pub reported_trial : StateReport → ℕ → Option PauseHappening
reported_trial r now_ms = if r.remove then None else trial_in (operational_of r.operational) r.plsp now_ms

abbrev pub trial_event : Event → ℕ → Option PauseHappening
trial_event (event.Report peer report) now_ms = reported_trial report now_ms
trial_event other now_ms = None

abbrev pub trial_happening : Event → Reply → ℕ → Option PauseHappening
trial_happening event (reply.Refused why) now_ms = None
trial_happening event other now_ms = trial_event event now_ms
