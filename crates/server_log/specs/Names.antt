-- Names of LSPs as log lines print them.
use Rattle.std.specs.Prelude.{ℕ, ◌==◌, ◌++◌, ◌/◌, ◌%◌, ◌&&◌, not, min, nat_le, nat_lt, Bool, true, false, List, [], ◌∷◌, length, take, drop, replicate, codes, flat_map, if◌then◌else◌}
use Rattle.std.specs.Fmt.{digits}
use Rattle.server_log.specs.Joining.{◌+>◌}
use Rattle.server_log.specs.declared.shown_name.ShownName.{ShownName}

-- this many bytes of the name, in room for 64, and whether there are more
abbrev pub front_of : ℕ → List ℕ → ShownName
front_of count name = record { bytes = take count name ++ drop count (replicate 64 0); count = count; is_cut = nat_lt count (length name) }

abbrev pub begin_of : List ℕ → ShownName
begin_of name = front_of (min (length name) 64) name

-- a printed character of ASCII, except space and backslash
abbrev pub is_plain : ℕ → Bool
is_plain byte = nat_le 0x21 byte && nat_le byte 0x7e && not (byte == 92)

-- any other byte as two hexadecimal digits
abbrev pub byte_text : ℕ → List ℕ
byte_text byte = if is_plain byte then byte ∷ [] else codes "\\x" +> digits 16 false (byte / 16) +> digits 16 false (byte % 16)

abbrev pub cut_mark : Bool → List ℕ
cut_mark false = []
cut_mark true = codes ".."

-- the text of a name; a dash if there is no name
abbrev pub name_text : ShownName → List ℕ
name_text name = if name.count == 0 then codes "-" else flat_map byte_text (take name.count name.bytes) +> cut_mark name.is_cut
