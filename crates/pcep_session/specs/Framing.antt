-- What is at the front of the bytes that a session has received (RFC 5440 section 6.1).
use Rattle.std.specs.Prelude.{ℕ, ◌/◌, ◌%◌, ◌^◌, ◌≤◌, Bool, true, false, not, ◌||◌, List, length, slice_index, nat_lt, ◌==◌, if◌then◌else◌}
use Rattle.pcep_objects.specs.Steps.{field}
use Rattle.pcep_session.specs.declared.framing.NextMessage.{NextMessage}
use Rattle.pcep_session.specs.declared.framing.NextMessage.TheVariants.{Waiting, Bad, Whole}

-- the length of the message, including its header
abbrev pub message_length : List ℕ → ℕ
message_length bytes = field 2 2 bytes

-- a version that is not 1, or a length that no message has
abbrev pub is_bad : List ℕ → Bool
is_bad bytes = not (slice_index bytes 0 / 2 ^ 5 == 1) || nat_lt (message_length bytes) 4 || not (message_length bytes % 4 == 0)

-- The four bytes of a header say whether it is bad. If a message isn't complete, nothing else of it is looked at.
unfoldable pub front_of : List ℕ → NextMessage
front_of bytes =
    if nat_lt (length bytes) 4 then Waiting
    else (if is_bad bytes then Bad
    else (if nat_lt (length bytes) (message_length bytes) then Waiting
    else Whole (message_length bytes)))

-- How many bytes there must be until there is something to handle: the four of a header, and if it is valid, those of
-- its message.
unfoldable pub bytes_needed : List ℕ → ℕ
bytes_needed bytes =
    if nat_lt (length bytes) 4 then 4
    else (if is_bad bytes then 4
    else message_length bytes)

-- there is nothing to handle yet
abbrev pub is_waiting : NextMessage → Bool
is_waiting Waiting = true
is_waiting front = false

-- a whole message is within the bytes
abbrev pub FitsIn : ℕ → NextMessage → Type 0
FitsIn len (Whole size) = (4 ≤ size) × (size ≤ len)
FitsIn len front = Unit {0}
