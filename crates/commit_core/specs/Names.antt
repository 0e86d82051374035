-- Symbolic path names that the PCE gives (RFC 8231 section 7.3.2).
use Rattle.std.specs.Prelude.{ℕ, Bool, ◌&&◌, nat_lt, nat_le, List, length, Option, Some, None, if◌then◌else◌}

-- it has 1 to 64 bytes
abbrev pub is_name : List ℕ → Bool
is_name bytes = nat_lt 0 (length bytes) && nat_le (length bytes) 64

abbrev pub name_of : List ℕ → Option (List ℕ)
name_of bytes = if is_name bytes then Some bytes else None
