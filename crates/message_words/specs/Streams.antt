-- How bytes are cut into messages.
use Rattle.std.specs.Prelude.{ℕ, ◌+◌, ◌*◌, ◌&&◌, nat_le, List, length, get_or, if◌then◌else◌}

-- the length in the common header with which the bytes begin (RFC 5440 section 6.1)
abbrev pub said_length : List ℕ → ℕ
said_length bytes = 256 * get_or bytes 2 0 + get_or bytes 3 0

-- The first message is as long as its header says, if that is at least the header's four bytes and no more than there
-- are. Otherwise it is all of the bytes.
abbrev pub first_length : List ℕ → ℕ
first_length bytes = if nat_le 4 (said_length bytes) && nat_le (said_length bytes) (length bytes) then said_length bytes else length bytes
