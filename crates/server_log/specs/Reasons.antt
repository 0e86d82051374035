-- Why connections end.
use Rattle.std.specs.Prelude.{ℕ, Option, Some, None, option_map, if◌then◌else◌}
use Rattle.pcep_messages.specs.declared.notice.Notice.{Notice}
use Rattle.pcep_messages.specs.declared.notice.Notice.TheVariants.{Keepalive, Error, Close}
use Rattle.pcep_messages.specs.declared.notice.PcError.{PcError}
use Rattle.pcep_session.specs.declared.table.EndReason.{EndReason}
use Rattle.pcep_session.specs.declared.table.EndReason.TheVariants as end
use Rattle.pcep_session.specs.declared.table.Notices.{Notices}
use Rattle.pcep_session.specs.declared.table.Notices.TheVariants.{Nothing, One, Two}
use Rattle.server_rules.specs.declared.peer_errors.PcErr.{PcErr}
use Rattle.server_talk.specs.declared.talk.Ended.{Ended}
use Rattle.server_talk.specs.declared.talk.Ended.TheVariants as ended
use Rattle.server_log.specs.declared.reason.EndFacts.{EndFacts}
use Rattle.end_reasons.specs.declared.reason.LastWords.{LastWords}
use Rattle.end_reasons.specs.declared.reason.Reason.{Reason}
use Rattle.end_reasons.specs.declared.reason.Reason.TheVariants as reason

abbrev pub code_of : PcError → PcErr
code_of error = record { kind = error.kind; value = error.value }

-- ---- what a session said when it ended

abbrev pub silence : LastWords
silence = record { error = None; close = None }

abbrev pub adding : Notice → LastWords → LastWords
adding Keepalive said = said
adding (Error error) said = record { error = Some (code_of error); close = said.close }
adding (Close number) said = record { error = said.error; close = Some number }

abbrev pub said_in : Notices → LastWords
said_in Nothing = silence
said_in (One notice) = adding notice silence
said_in (Two first second) = adding second (adding first silence)

-- ---- why the connection ended

-- The server ends a session that the state refused, to give its place to another connection, because the run ends, or
-- because memory ran out.
abbrev pub unrefused : EndFacts → LastWords → Reason
unrefused e said = if e.gives_place then reason.PlaceTaken else (if e.run_ends then reason.RunEnds else reason.Session said)

abbrev pub ordered : Option ℕ → Reason → Reason
ordered (Some number) other = reason.Refused number
ordered None other = other

abbrev pub by_this_side : EndFacts → LastWords → Reason
by_this_side e said = ordered e.refused (unrefused e said)

abbrev pub of_session : EndFacts → Option EndReason → Reason
of_session e (Some (end.PeerClose number)) = reason.PeerClose number
of_session e (Some (end.Said notices)) = reason.Session (said_in notices)
of_session e (Some (end.Caller error close)) = by_this_side e (record { error = option_map code_of error; close = close })
of_session e None = by_this_side e silence

-- the reason from how the transport, or the session, ended
abbrev pub by_transport : EndFacts → Ended → Reason
by_transport e ended.PeerClosed = reason.PeerClosed
by_transport e ended.SessionEnded = of_session e e.session
by_transport e ended.ReadFault = reason.ReadFault
by_transport e ended.WriteFault = reason.WriteFault
by_transport e (ended.StoreFault fault) = reason.StoreFault fault

abbrev pub reason_of : EndFacts → Reason
reason_of e = by_transport e e.ended
