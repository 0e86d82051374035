-- What an event that wasn't refused says about paths and LSPs of routers.
use Rattle.std.specs.Prelude.{ℕ, not, ◌||◌, Option, Some, None, option_map, if◌then◌else◌}
use Rattle.delegate_rules.specs.Reports.{are_zero, identifiers_of}
use Rattle.pcep_messages.specs.declared.message.StateReport.{StateReport}
use Rattle.pcep_objects.specs.declared.object.Operational.{Operational as Reported}
use Rattle.pcep_objects.specs.declared.object.Operational.TheVariants as said
use Rattle.pcep_objects.specs.declared.object.RsvpError.{RsvpError as ReportedError}
use Rattle.server_rules.specs.declared.path_word.Operational.{Operational}
use Rattle.server_rules.specs.declared.path_word.Operational.TheVariants as operational
use Rattle.server_rules.specs.declared.path_word.PathHappening.{PathHappening}
use Rattle.server_rules.specs.declared.path_word.PathHappening.TheVariants as path
use Rattle.server_rules.specs.declared.path_word.PathKey.{PathKey}
use Rattle.server_rules.specs.declared.path_word.PathWord.{PathWord}
use Rattle.server_rules.specs.declared.path_word.RsvpError.{RsvpError}
use Rattle.server_rules.specs.declared.retry.RouterLsp.{RouterLsp}
use Rattle.step_core.specs.declared.event.Event.{Event}
use Rattle.step_core.specs.declared.event.Event.TheVariants as event

abbrev pub operational_of : Reported → Operational
operational_of said.Down = operational.Down
operational_of said.Up = operational.Up
operational_of said.Active = operational.Active
operational_of said.GoingDown = operational.GoingDown
operational_of said.GoingUp = operational.GoingUp

abbrev pub rsvp_error_of : ReportedError → RsvpError
rsvp_error_of e = record { node = e.node; flags = e.flags; code = e.code; value = e.value }

abbrev pub word_of : StateReport → PathWord
word_of r = record { operational = operational_of r.operational; error_code = r.error_code; rsvp_error = option_map rsvp_error_of r.rsvp_error }

abbrev pub key_of : ℕ → StateReport → PathKey
key_of peer r = record { peer = peer; plsp = r.plsp; lsp = (identifiers_of r).lsp }

abbrev pub lsp_of : ℕ → StateReport → RouterLsp
lsp_of peer r = record { peer = peer; plsp = r.plsp }

-- a removal without identifiers removes the whole LSP
abbrev pub removal : ℕ → StateReport → PathHappening
removal peer r = if are_zero (identifiers_of r) then path.LspRemoved (lsp_of peer r) else path.PathRemoved (key_of peer r)

abbrev pub reported : ℕ → StateReport → PathHappening
reported peer r = if r.remove then removal peer r else path.Reported (key_of peer r) (word_of r)

abbrev pub path_event : Event → Option PathHappening
path_event (event.Up peer capabilities) = Some (path.Up peer)
path_event (event.Marker peer) = Some (path.Synchronized peer)
path_event (event.Report peer report) = Some (reported peer report)
path_event other = None

-- a report of an unsignalled LSP leaves no other reported path of it
abbrev pub replaced_by : ℕ → StateReport → Option RouterLsp
replaced_by peer r = if r.remove || not (are_zero (identifiers_of r)) then None else Some (lsp_of peer r)

abbrev pub replaced_in : Event → Option RouterLsp
replaced_in (event.Report peer report) = replaced_by peer report
replaced_in other = None
