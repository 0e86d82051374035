-- Messages in a stream of bytes, one after the other (RFC 5440 section 6.1).
use Rattle.std.specs.Prelude.{ℕ, ◌+◌, ◌-◌, ◌*◌, ◌==◌, nat_eq, nat_le, if◌then◌else◌}
use Rattle.server_counts.specs.Counts.{added}
use Rattle.server_counts.specs.declared.counters.Counters.{Counters}
use Rattle.server_counts.specs.declared.kinds.Counted.TheVariants.{Received, Sent, ErrorSent}
use Rattle.server_counts.specs.declared.kinds.MessageKind.{MessageKind}
use Rattle.server_counts.specs.declared.kinds.MessageKind.TheVariants as message
use Rattle.server_counts.specs.declared.stream.MessageStream.{MessageStream}
use Rattle.server_counts.specs.declared.stream.MessageStream.TheVariants.{Start, Kind, High, Low, Body}
use Rattle.server_counts.specs.declared.stream.Way.{Way}
use Rattle.server_counts.specs.declared.stream.Way.TheVariants.{In, Out}

-- the types of messages that are counted separately
abbrev pub kind_of_type : ℕ → MessageKind
kind_of_type number =
    if number == 1 then message.Open
    else (if number == 2 then message.Keepalive
    else (if number == 3 then message.Request
    else (if number == 4 then message.Reply
    else (if number == 5 then message.Notification
    else (if number == 6 then message.Error
    else (if number == 7 then message.Close
    else (if number == 10 then message.Report
    else (if number == 11 then message.Update
    else (if number == 12 then message.Initiate
    else message.Other)))))))))

-- A whole message is counted by its type. A PCErr that is sent is also counted by its last two bytes, which are the
-- type and value of its PCEP-ERROR object if that object comes last (RFC 5440 section 7.15).
abbrev pub whole_counted : Way → ℕ → ℕ → ℕ → Counters → Counters
whole_counted In kind before last c = added (Received (kind_of_type kind)) c
whole_counted Out kind before last c =
    if nat_eq kind 6 then added (ErrorSent before last) (added (Sent (kind_of_type kind)) c) else added (Sent (kind_of_type kind)) c

-- the stream after the header of a message of this length
abbrev pub begun : Way → ℕ → ℕ → ℕ → Counters → MessageStream × Counters
begun way kind length byte c = if nat_le length 4 then (Start, whole_counted way kind 0 byte c) else (Body kind (length - 4) 0, c)

-- one more byte of a body that has `left` bytes to come
abbrev pub gone_on : Way → ℕ → ℕ → ℕ → ℕ → Counters → MessageStream × Counters
gone_on way kind left last byte c =
    if nat_le left 1 then (Start, whole_counted way kind last byte c) else (Body kind (left - 1) (if nat_eq kind 6 then byte else last), c)

-- one more byte; a message is counted at its last byte
abbrev pub heard : Way → MessageStream × Counters → ℕ → MessageStream × Counters
heard way (Start, c) byte = (Kind, c)
heard way (Kind, c) byte = (High byte, c)
heard way (High kind, c) byte = (Low kind byte, c)
heard way (Low kind high, c) byte = begun way kind (256 * high + byte) byte c
heard way (Body kind left last, c) byte = gone_on way kind left last byte c

-- a body with `count` fewer bytes to come
abbrev pub behind : MessageStream → ℕ → MessageStream
behind (Body kind left last) count = Body kind (left - count) last
behind s count = s
