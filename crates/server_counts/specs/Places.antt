-- The place of each number in the table.
use Rattle.std.specs.Prelude.{ℕ, ◌==◌, ◌+◌, ◌*◌, true, false, min, Option, Some, None, if◌then◌else◌}
use Rattle.pce_seen.specs.declared.steps.EventKind.{EventKind}
use Rattle.pce_seen.specs.declared.steps.EventKind.TheVariants as event
use Rattle.history_core.specs.declared.step.Brief.{Brief}
use Rattle.history_core.specs.declared.step.Brief.TheVariants as brief
use Rattle.server_counts.specs.declared.kinds.MessageKind.{MessageKind}
use Rattle.server_counts.specs.declared.kinds.MessageKind.TheVariants as message
use Rattle.end_reasons.specs.declared.reason.Reason.{Reason}
use Rattle.end_reasons.specs.declared.reason.Reason.TheVariants as reason
use Rattle.server_counts.specs.declared.kinds.Counted.{Counted}
use Rattle.server_counts.specs.declared.kinds.Counted.TheVariants as counted

abbrev pub event_number : EventKind → ℕ
event_number event.Up = 0
event_number event.Report = 1
event_number event.Marker = 2
event_number event.Down = 3
event_number event.Expire = 4
event_number event.Ask = 5
event_number event.Take = 6
event_number event.Commit = 7
event_number event.Drain = 8
event_number event.Refused = 9
event_number event.Return = 10
event_number event.Delete = 11
event_number event.Reload = 12

abbrev pub reply_number : Brief → ℕ
reply_number brief.Done = 0
reply_number (brief.Booked false) = 1
reply_number (brief.Booked true) = 2
reply_number (brief.Asked ticket) = 3
reply_number (brief.Job ticket) = 4
reply_number brief.Idle = 5
reply_number (brief.Granted srp) = 6
reply_number brief.Answered = 7
reply_number brief.Again = 8
reply_number brief.NoPath = 9
reply_number brief.GivenUp = 10
reply_number brief.Gone = 11
reply_number (brief.Removing srp) = 12
reply_number (brief.Out messages) = 13
reply_number (brief.Refused why) = 14

abbrev pub message_number : MessageKind → ℕ
message_number message.Open = 0
message_number message.Keepalive = 1
message_number message.Request = 2
message_number message.Reply = 3
message_number message.Notification = 4
message_number message.Error = 5
message_number message.Close = 6
message_number message.Report = 7
message_number message.Update = 8
message_number message.Initiate = 9
message_number message.Other = 10

-- a session ends with a Close of reason 2 for the DeadTimer, and one of reason 3 for a malformed message (RFC 5440
-- section 7.17)
abbrev pub closing_number : Option ℕ → ℕ
closing_number None = 1
closing_number (Some number) = if number == 2 then 5 else (if number == 3 then 6 else 7)

-- the refusal with number 2 says that the peer is up
abbrev pub end_number : Reason → ℕ
end_number reason.PeerClosed = 0
end_number (reason.PeerClose number) = 0
end_number (reason.Session said) = closing_number said.close
end_number reason.ReadFault = 2
end_number reason.WriteFault = 3
end_number (reason.StoreFault fault) = 4
end_number reason.PlaceTaken = 8
end_number reason.RunEnds = 9
end_number (reason.Refused number) = if number == 2 then 10 else 11
end_number reason.Unheard = 12

-- the place of a type and value of PCErr among all of them; the values from 31 on share one place
abbrev pub error_place : ℕ → ℕ → ℕ
error_place kind value = 32 * min kind 31 + min value 31

-- the place of a number among all that are counted
abbrev pub place : Counted → ℕ
place (counted.Step e r) = event_number e * 15 + reply_number r
place (counted.Refusal number) = 195 + min number 24
place counted.Accepted = 220
place counted.Stranger = 221
place (counted.Ended reason) = 222 + end_number reason
place (counted.Received message) = 235 + message_number message
place (counted.Sent message) = 246 + message_number message
place (counted.ErrorSent kind value) = 257 + error_place kind value
place counted.NoAnswer = 1281
place (counted.ErrorReceived kind value) = 1282 + error_place kind value
