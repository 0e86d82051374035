-- Messages of PCEP in bytes: what the bytes read as, or the first fault.
use Rattle.std.specs.Prelude.{◌≡◌, ℕ, ◌/◌, ◌%◌, ◌^◌, Bool, not, ◌&&◌, List, length, drop, slice_index, Result, Ok, Err, nat_lt, ◌==◌, if◌then◌else◌}
use Rattle.pcep_objects.specs.Steps.{◌>>=◌, field, HasOneAnswer}
use Rattle.pcep_messages.specs.Notifications.{notification_body}
use Rattle.pcep_messages.specs.Requests.{request_body}
use Rattle.pcep_messages.specs.Sessions.{opening_body, keepalive_body, close_body}
use Rattle.pcep_messages.specs.Replies.{reply_body}
use Rattle.pcep_messages.specs.Errors.{errors_body}
use Rattle.pcep_messages.specs.Reports.{report_body}
use Rattle.pcep_messages.specs.Updates.{update_body, initiate_body}
use Rattle.pcep_messages.specs.declared.fault.MessageFault.{MessageFault}
use Rattle.pcep_messages.specs.declared.fault.MessageFault.TheVariants.{BadHeader}
use Rattle.pcep_messages.specs.declared.message.Message.{Message}
use Rattle.pcep_messages.specs.declared.message.Message.TheVariants.{Report, Unknown}

-- The common header of a message (RFC 5440 section 6.1): version 1 in three bits, flags in five, the type,
-- and the length of the whole message, a multiple of 4.
abbrev pub has_header : List ℕ → Bool
has_header bytes =
    not (nat_lt (length bytes) 4) && slice_index bytes 0 / 2 ^ 5 == 1 && field 2 2 bytes == length bytes && length bytes % 4 == 0

-- the message of a state report with this body
abbrev pub report_message : List ℕ → Result Message MessageFault
report_message body = report_body body >>= λ reports. Ok (Report reports)

-- The types of messages (RFC 5440 section 6, RFC 8231 section 6, RFC 8281 section 5). The body of any other
-- type isn't read.
abbrev pub message_of : ℕ → List ℕ → Result Message MessageFault
message_of kind body =
    if kind == 1 then opening_body body
    else (if kind == 2 then keepalive_body body
    else (if kind == 3 then request_body body
    else (if kind == 4 then reply_body body
    else (if kind == 5 then notification_body body
    else (if kind == 6 then errors_body body
    else (if kind == 7 then close_body body
    else (if kind == 10 then report_message body
    else (if kind == 11 then update_body body
    else (if kind == 12 then initiate_body body
    else Ok (Unknown kind))))))))))

unfoldable pub message_in : List ℕ → Result Message MessageFault
message_in bytes = if has_header bytes then message_of (slice_index bytes 1) (drop 4 bytes) else Err BadHeader

-- the bytes are this message
abbrev pub Reads : List ℕ → Message → Type 0
Reads bytes message = message_in bytes ≡ Ok message

-- this fault is the first
abbrev pub IsFaulty : List ℕ → MessageFault → Type 0
IsFaulty bytes fault = message_in bytes ≡ Err fault

-- the bytes are one message or have one first fault
abbrev pub ReadsOrIsFaulty : List ℕ → Type 0
ReadsOrIsFaulty bytes = HasOneAnswer (Reads bytes) (IsFaulty bytes)
