-- States, events and replies without local protection (flag L of LSPA, RFC 5440 section 7.11).
use Rattle.std.specs.Prelude.{false, map, option_map}
use Rattle.pcep_messages.specs.declared.message.Attributes.{Attributes}
use Rattle.pcep_messages.specs.declared.message.Initiate.{Initiate}
use Rattle.pcep_messages.specs.declared.message.Initiate.TheVariants as initiates
use Rattle.pcep_messages.specs.declared.message.Message.{Message}
use Rattle.pcep_messages.specs.declared.message.Message.TheVariants as messages
use Rattle.pcep_messages.specs.declared.message.StateReport.{StateReport}
use Rattle.lsp_base.specs.Lsps.{Lsps}
use Rattle.lsp_base.specs.declared.effect.Record.{Record}
use Rattle.lsp_base.specs.declared.lsp.Constraints.{Constraints}
use Rattle.lsp_base.specs.declared.lsp.Lsp.{Lsp}
use Rattle.commit_core.specs.declared.ticket.Purpose.{Purpose}
use Rattle.commit_core.specs.declared.ticket.Purpose.TheVariants as purposes
use Rattle.commit_core.specs.declared.ticket.Ticket.{Ticket}
use Rattle.step_core.specs.Outcomes.{Outcome}
use Rattle.step_core.specs.States.{State}
use Rattle.step_core.specs.declared.event.Event.{Event}
use Rattle.step_core.specs.declared.event.Event.TheVariants as events
use Rattle.step_core.specs.declared.event.Reply.{Reply}
use Rattle.step_core.specs.declared.event.Reply.TheVariants as replies
use Rattle.step_core.specs.declared.job.Job.{Job}
use Rattle.step_core.specs.declared.peer.Peer.{Peer}

-- ---- what is known of LSPs

abbrev pub plain_constraints : Constraints → Constraints
plain_constraints c = record c { local_protection = false }

abbrev pub plain_lsp : Lsp → Lsp
plain_lsp lsp = record lsp { constraints = plain_constraints lsp.constraints }

abbrev pub plain_record : Record → Record
plain_record r = record r { lsp = plain_lsp r.lsp }

abbrev pub plain_lsps : Lsps → Lsps
plain_lsps lsps = record lsps { records = map plain_record lsps.records }

-- ---- what is asked for

abbrev pub plain_purpose : Purpose → Purpose
plain_purpose (purposes.Update plsp) = purposes.Update plsp
plain_purpose (purposes.Initiate name c) = purposes.Initiate name (plain_constraints c)
plain_purpose (purposes.Answer request plsp c) = purposes.Answer request plsp (plain_constraints c)

abbrev pub plain_ticket : Ticket → Ticket
plain_ticket t = record t { purpose = plain_purpose t.purpose; constraints = plain_constraints t.constraints }

-- ---- messages

abbrev pub plain_report : StateReport → StateReport
plain_report r = record r { local_protection = false }

abbrev pub plain_attributes : Attributes → Attributes
plain_attributes a = record a { local_protection = false }

abbrev pub plain_initiate : Initiate → Initiate
plain_initiate (initiates.Create c) = initiates.Create (record c { attributes = option_map plain_attributes c.attributes })
plain_initiate (initiates.Remove srp plsp) = initiates.Remove srp plsp

abbrev pub plain_message : Message → Message
plain_message (messages.Report reports) = messages.Report (map plain_report reports)
plain_message (messages.Update u) = messages.Update (record u { attributes = option_map plain_attributes u.attributes })
plain_message (messages.Initiate i) = messages.Initiate (plain_initiate i)
plain_message message = message

abbrev pub plain_peer : Peer → Peer
plain_peer p = record p { outgoing = map plain_message p.outgoing }

-- ---- states, events and their results

abbrev pub plain : State → State
plain s = record s { base = plain_lsps s.base; peers = map plain_peer s.peers; tickets = map plain_ticket s.tickets }

abbrev pub plain_event : Event → Event
plain_event (events.Report n r) = events.Report n (plain_report r)
plain_event (events.Ask n purpose) = events.Ask n (plain_purpose purpose)
plain_event event = event

abbrev pub plain_job : Job → Job
plain_job job = record job { ticket = plain_ticket job.ticket }

abbrev pub plain_reply : Reply → Reply
plain_reply (replies.Job job) = replies.Job (plain_job job)
plain_reply (replies.Out waiting) = replies.Out (map plain_message waiting)
plain_reply reply = reply

abbrev pub plain_outcome : Outcome → Outcome
plain_outcome o = record { state = plain o.state; reply = plain_reply o.reply }
