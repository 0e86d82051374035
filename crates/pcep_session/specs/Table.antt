-- How a session reacts to what comes, state by state (RFC 5440 sections 6.2 to 6.9 and appendix A).
use Rattle.std.specs.Prelude.{ℕ, Bool, true, false, Option, Some, None, ◌==◌, if◌then◌else◌}
use Rattle.pcep_objects.specs.declared.fault.ObjectFault.{ObjectFault}
use Rattle.pcep_objects.specs.declared.fault.ObjectFault.TheVariants.{UnknownClass, UnknownType}
use Rattle.lsp_words.specs.declared.object.Capabilities.{Capabilities}
use Rattle.pcep_messages.specs.declared.fault.About.{About}
use Rattle.pcep_messages.specs.declared.fault.About.TheVariants as about
use Rattle.pcep_messages.specs.declared.fault.MessageFault.{MessageFault}
use Rattle.pcep_messages.specs.declared.fault.MessageFault.TheVariants as faults
use Rattle.pcep_messages.specs.declared.message.Message.{Message}
use Rattle.pcep_messages.specs.declared.message.Message.TheVariants as messages
use Rattle.pcep_messages.specs.declared.notice.Notice.{Notice}
use Rattle.pcep_messages.specs.declared.notice.Notice.TheVariants.{Keepalive, Error, Close}
use Rattle.pcep_session.specs.declared.table.Arrival.{Arrival}
use Rattle.pcep_session.specs.declared.table.Arrival.TheVariants.{BadHeader, Unrecognized, UnannouncedReport, Read, Faulty}
use Rattle.pcep_session.specs.declared.table.EndReason.{EndReason}
use Rattle.pcep_session.specs.declared.table.EndReason.TheVariants.{PeerClose, Said}
use Rattle.pcep_session.specs.declared.table.Input.TheVariants as input
use Rattle.pcep_session.specs.declared.table.Notices.{Notices}
use Rattle.pcep_session.specs.declared.table.Notices.TheVariants.{Nothing, One, Two}
use Rattle.pcep_session.specs.declared.table.Reaction.{Reaction}
use Rattle.pcep_session.specs.declared.table.State.{State}
use Rattle.pcep_session.specs.declared.table.State.TheVariants.{OpenWait, KeepWait, Up, Closed}
use Rattle.pcep_session.specs.declared.table.Timer.{Timer}
use Rattle.pcep_session.specs.declared.table.Timer.TheVariants as timers

-- the session goes on, and its caller gets nothing
abbrev pub goes_on : State → Notices → Reaction
goes_on state notices = record { notices = notices; state = state; end = None; input = input.Handled }

-- the session ends, for this reason
abbrev pub ends : Notices → EndReason → Reaction
ends notices end = record { notices = notices; state = Closed; end = Some end; input = input.Down }

-- the session ends itself, and sends this
abbrev pub closes : Notices → Reaction
closes notices = ends notices (Said notices)

-- the peer closes it
abbrev pub closed_by_peer : ℕ → Reaction
closed_by_peer reason = ends Nothing (PeerClose reason)

-- the caller gets the message
abbrev pub gives : Message → Reaction
gives message = record { notices = Nothing; state = Up; end = None; input = input.Message message }

-- a PCErr, given what it is about, its Error-Type and its Error-value (RFC 5440 section 7.15)
abbrev pub error_about : About → ℕ → ℕ → Notice
error_about a kind value = Error (record { about = a; kind = kind; value = value })

abbrev pub error : ℕ → ℕ → Notice
error kind value = error_about about.Nothing kind value

-- in OpenWait: an Open and nothing else is accepted
abbrev pub in_open_wait : Arrival → Reaction
in_open_wait (Read (messages.Opening open_)) = goes_on KeepWait (One Keepalive)
in_open_wait arrival = closes (One (error 1 1))

-- in KeepWait: a Keepalive brings the session up, with the capabilities of the peer's Open
abbrev pub in_keep_wait : Option Capabilities → Arrival → Reaction
in_keep_wait capabilities (Read messages.Keepalive) = record { notices = Nothing; state = Up; end = None; input = input.Up capabilities }
in_keep_wait capabilities (Read (messages.Error errors)) = closes (One (error 1 6))
in_keep_wait capabilities (Read (messages.Close reason)) = closed_by_peer reason
in_keep_wait capabilities arrival = closes (One (error 1 1))

-- in Up: an object with a fault of its own
abbrev pub on_object : About → ObjectFault → Reaction
on_object a (UnknownClass p size) = goes_on Up (One (error_about a 3 1))
on_object a (UnknownType p size) = goes_on Up (One (error_about a 3 2))
on_object a fault = closes (One (Close 3))

-- the Error-value of type 6, a mandatory object is missing (RFC 5440 section 7.15, RFC 8231 section 8.5): RP 1,
-- END-POINTS 3, LSP 8, SRP 10, otherwise that of an ERO, 9
abbrev pub missing_value : ℕ → ℕ
missing_value class =
    if class == 2 then 1 else (if class == 4 then 3 else (if class == 32 then 8 else (if class == 33 then 10 else 9)))

-- in Up: a message that is refused
abbrev pub on_fault : MessageFault → Reaction
on_fault (faults.BadObject fault a) = on_object a fault
on_fault (faults.Missing class a) = goes_on Up (One (error_about a 6 (missing_value class)))
on_fault (faults.BadP a) = goes_on Up (One (error_about a 10 1))
on_fault (faults.Refused kind value a) = goes_on Up (One (error_about a kind value))
on_fault (faults.MissingIdentifiers a) = closes (Two (error_about a 6 11) (Close 3))
on_fault fault = closes (One (Close 3))

-- in Up: a message that is accepted
abbrev pub on_accepted : Message → Reaction
on_accepted (messages.Close reason) = closed_by_peer reason
on_accepted messages.Keepalive = goes_on Up Nothing
on_accepted message = gives message

-- in Up: an unrecognized message ends the session if it is the fifth within a minute
abbrev pub on_unrecognized : Bool → Reaction
on_unrecognized false = goes_on Up (One (error 2 0))
on_unrecognized true = closes (Two (error 2 0) (Close 5))

abbrev pub in_up : Bool → Arrival → Reaction
in_up fifth BadHeader = closes (One (Close 3))
in_up fifth Unrecognized = on_unrecognized fifth
in_up fifth UnannouncedReport = closes (Two (error 19 5) (Close 1))
in_up fifth (Read message) = on_accepted message
in_up fifth (Faulty fault) = on_fault fault

abbrev pub reaction : State → Option Capabilities → Bool → Arrival → Reaction
reaction OpenWait capabilities fifth arrival = in_open_wait arrival
reaction KeepWait capabilities fifth arrival = in_keep_wait capabilities arrival
reaction Up capabilities fifth arrival = in_up fifth arrival
reaction Closed capabilities fifth arrival = closes Nothing

-- The timers of a session (RFC 5440 section 6.2 and appendix A, 6.3), and which of them is due in a state. `waited`:
-- the minute of OpenWait or KeepWait is over. `silent`: nothing was received for the peer's DeadTimer. `quiet`: nothing
-- was sent for the session's Keepalive, 30 s.
abbrev pub due : State → (waited silent quiet : Bool) → Option Timer
due OpenWait true silent quiet = Some timers.OpenWait
due KeepWait true silent quiet = Some timers.KeepWait
due Up waited true quiet = Some timers.Dead
due Up waited false true = Some timers.Keepalive
due state waited silent quiet = None

-- the reaction to a timer that is due
abbrev pub on_timer : Timer → Reaction
on_timer timers.OpenWait = closes (One (error 1 2))
on_timer timers.KeepWait = closes (One (error 1 7))
on_timer timers.Dead = closes (One (Close 2))
on_timer timers.Keepalive = goes_on Up (One Keepalive)
