-- What the events of a line do to the database.
use Rattle.std.specs.Prelude.{ℕ, true, List, ◌++◌, codes, Some, Result, Ok, Err, if◌then◌else◌}
use Rattle.pcep_messages.specs.declared.message.StateReport.{StateReport}
use Rattle.step_core.specs.States.{is_up}
use Rattle.history_core.specs.Histories.{Content, applied}
use Rattle.history_core.specs.declared.fault.Fault.{Fault}
use Rattle.lsp_words.specs.declared.object.Capabilities.{Capabilities}
use Rattle.step_core.specs.declared.event.Event.{Event}
use Rattle.step_core.specs.declared.event.Event.TheVariants as event
use Rattle.step_core.specs.declared.event.Reply.{Reply}
use Rattle.script_lines.specs.Texts.{reply_text}
use Rattle.script_lines.specs.LineAnswer.{LineAnswer, line_answer, ◌>>=◌, each}
use Rattle.script_lines.specs.declared.fault.CommandFault.{CommandFault}
use Rattle.script_lines.specs.declared.fault.CommandFault.TheVariants.{Store}

-- the reply to an event, and the database after it
pub record Answer : Type 0 where
  pub reply : Reply
  pub after : Content

abbrev pub answer : Reply → Content → Answer
answer reply after = record { reply = reply; after = after }

abbrev pub answer_of : Result (Reply × Content) Fault → Result Answer CommandFault
answer_of (Ok done) = Ok (answer done.0 done.1)
answer_of (Err fault) = Err (Store fault)

-- the answer to one event
unfoldable pub submitted : Content → Event → Result Answer CommandFault
submitted d event = answer_of (applied d event)

-- the capabilities of a script's peer
abbrev pub both : Capabilities
both = record { update = true; create = true }

-- a session that has synchronized: the events Up and Marker, whose replies aren't printed
unfoldable pub came_up : Content → ℕ → Result Content CommandFault
came_up d peer = do
  up ← submitted d (event.Up peer (Some both))
  marked ← submitted up.after (event.Marker peer)
  Ok marked.after

-- the database with the peer up
unfoldable pub up_at_least : Content → ℕ → Result Content CommandFault
up_at_least d peer = if is_up d.state peer then Ok d else came_up d peer

abbrev pub reply_line : Reply → List ℕ
reply_line reply = reply_text reply ++ codes "\n"

-- an event, with its reply on a line
unfoldable pub event_line : Event → Content → Result (LineAnswer Content) CommandFault
event_line event d = do
  given ← submitted d event
  Ok (line_answer (reply_line given.reply) given.after)

-- the reports are submitted in turn
abbrev pub reports_answer : ℕ → List StateReport → Content → Result (LineAnswer Content) CommandFault
reports_answer peer reports d = each (λ report. event_line (event.Report peer report)) reports d

-- `report PEER HEX`: what it prints, and the database after it
unfoldable pub report_line : Content → ℕ → List StateReport → Result (LineAnswer Content) CommandFault
report_line d peer reports = do
  up ← up_at_least d peer
  reports_answer peer reports up
