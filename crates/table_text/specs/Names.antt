-- Names for people, as a terminal can show them.
use Rattle.std.specs.Prelude.{ℕ, ◌==◌, ◌/◌, ◌%◌, ◌&&◌, not, nat_le, Bool, true, false, List, [], ◌∷◌, codes, if◌then◌else◌}
use Rattle.std.specs.Fmt.{digits}
use Rattle.std.specs.List.{list_all}
use Rattle.std.specs.Str.{is_utf8, chars}
use Rattle.ucd_category.specs.GeneralCategory.{general_category}
use Rattle.ucd_category.specs.declared.GeneralCategory.{GeneralCategory}
use Rattle.ucd_category.specs.declared.GeneralCategory.TheVariants.{Control, Format, LineSeparator, ParagraphSeparator}
use Rattle.table_text.specs.Adding.{◌+>◌}

-- Unicode's categories of characters that control a terminal or the direction of a text, and show nothing
abbrev pub steers : GeneralCategory → Bool
steers Control = true
steers Format = true
steers LineSeparator = true
steers ParagraphSeparator = true
steers _ = false

-- a character that is printed as it is; a backslash isn't, since it opens the digits of a byte
abbrev pub is_shown : ℕ → Bool
is_shown c = not (c == 92) && not (steers (general_category c))

-- a printed character of ASCII or a space, and no backslash
abbrev pub is_plain_byte : ℕ → Bool
is_plain_byte byte = nat_le 0x20 byte && nat_le byte 0x7e && not (byte == 92)

-- any other byte as two hexadecimal digits: `\x5c`
abbrev pub byte_words : ℕ → List ℕ
byte_words byte = if is_plain_byte byte then byte ∷ [] else codes "\\x" +> digits 16 false (byte / 16) +> digits 16 false (byte % 16)

abbrev pub bytes_words : List ℕ → List ℕ
bytes_words [] = []
bytes_words (byte ∷ bytes) = byte_words byte +> bytes_words bytes

-- a text of which each character is shown is printed as it is, any other byte by byte
abbrev pub shown_text : List ℕ → List ℕ
shown_text name = if list_all is_shown (chars name) then name else bytes_words name

-- a name; if it isn't text, it is printed byte by byte too
abbrev pub shown_name : List ℕ → List ℕ
shown_name name = if is_utf8 name then shown_text name else bytes_words name
