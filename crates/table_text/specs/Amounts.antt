-- Rates and percentages for people.
use Rattle.std.specs.Prelude.{ℕ, ℤ, pos, negsuc, ◌+◌, ◌-◌, ◌*◌, ◌/◌, ◌%◌, nat_lt, nat_eq, List, [], codes, if◌then◌else◌}
use Rattle.std.specs.Fmt.{decimal, signed_decimal}
use Rattle.table_text.specs.Adding.{◌+>◌}
use Rattle.table_text.specs.declared.amounts.Unit.{Unit}
use Rattle.table_text.specs.declared.amounts.Unit.TheVariants.{Kilobit, Megabit, Gigabit}

-- how many bits per second the unit has
abbrev pub size : Unit → ℕ
size Kilobit = 1_000
size Megabit = 1_000_000
size Gigabit = 1_000_000_000

abbrev pub unit_word : Unit → List ℕ
unit_word Kilobit = codes " kbit/s"
unit_word Megabit = codes " Mbit/s"
unit_word Gigabit = codes " Gbit/s"

-- a quotient, rounded to the nearest whole number; a half is rounded up
abbrev pub rounded : ℕ → ℕ → ℕ
rounded number by = (number + by / 2) / by

-- bits per second in tenths of the unit
abbrev pub tenths : Unit → ℕ → ℕ
tenths unit bits = rounded (10 * bits) (size unit)

-- the least unit in which the bits are below 1,000 as shown, or the greatest unit
unfoldable pub unit_of : ℕ → Unit
unit_of bits = if nat_lt (tenths Kilobit bits) 10_000 then Kilobit else if nat_lt (tenths Megabit bits) 10_000 then Megabit else Gigabit

-- one digit stands after the point
abbrev pub point_words : ℕ → List ℕ
point_words tenths = decimal (tenths / 10) +> codes "." +> decimal (tenths % 10)

-- the sign of a number; nothing for 0
abbrev pub sign_words : ℤ → ℕ → List ℕ
sign_words (pos bytes) tenths = []
sign_words (negsuc bytes) tenths = if nat_eq tenths 0 then [] else codes "-"

abbrev pub magnitude : ℤ → ℕ
magnitude (pos bytes) = bytes
magnitude (negsuc bytes) = bytes + 1

abbrev pub bits_words : ℤ → Unit → ℕ → List ℕ
bits_words bytes unit tenths = sign_words bytes tenths +> point_words tenths +> unit_word unit

unfoldable pub in_bits : ℤ → ℕ → List ℕ
in_bits bytes bits = bits_words bytes (unit_of bits) (tenths (unit_of bits) bits)

-- bytes per second, and the same in bits: `1000000 (8.0 Mbit/s)`
abbrev pub rate_words : ℤ → List ℕ
rate_words bytes = signed_decimal bytes +> codes " (" +> in_bits bytes (8 * magnitude bytes) +> codes ")"

-- how much of a link is reserved, given how much may be reserved and how much is left; what is left is below zero if
-- more is reserved
abbrev pub reserved : ℕ → ℤ → ℕ
reserved reservable (pos left) = reservable - left
reserved reservable (negsuc left) = reservable + (left + 1)

-- what is reserved, in percent of what may be reserved
abbrev pub percent_words : ℕ → ℤ → List ℕ
percent_words reservable left = if nat_eq reservable 0 then codes "-" else decimal (rounded (100 * reserved reservable left) reservable) +> codes "%"
