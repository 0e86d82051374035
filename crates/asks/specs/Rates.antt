-- Bandwidths with a unit.
use Rattle.std.specs.Prelude.{ℕ, ◌+◌, ◌*◌, ◌/◌, ◌%◌, ◌^◌, ◌==◌, ◌&&◌, nat_lt, nat_le, List, [], ◌++◌, length, codes, Option, Some, None, option_map, option_and_then, if◌then◌else◌}
use Rattle.std.specs.Fmt.{decimal}
use Rattle.std.specs.Int.{div_ceil}
use Rattle.std.specs.Str.{bytes_eq}
use Rattle.asks.specs.Words.{cut_at, long_number_in, raised}
use Rattle.asks.specs.declared.rates.Decimal.{Decimal}

abbrev pub followed_by : List ℕ → Option (List ℕ × List ℕ) → Option (List ℕ)
followed_by tail None = None
followed_by tail (Some cut) = if bytes_eq cut.1 tail then Some cut.0 else None

-- what stands before the first such byte, if `tail` is what stands after it
abbrev pub before : ℕ → List ℕ → List ℕ → Option (List ℕ)
before letter tail text = followed_by tail (cut_at letter text)

abbrev pub or_scaled : Option (List ℕ) → ℕ → (List ℕ × ℕ) → (List ℕ × ℕ)
or_scaled None by other = other
or_scaled (Some number) by other = (number, by)

-- a number, and by what the `k`, `M`, `G` or `T` after it multiplies it
unfoldable pub thousands : List ℕ → (List ℕ × ℕ)
thousands text =
    or_scaled (before 107 [] text) 1_000
    (or_scaled (before 77 [] text) 1_000_000
    (or_scaled (before 71 [] text) 1_000_000_000
    (or_scaled (before 84 [] text) 1_000_000_000_000 (text, 1))))

abbrev pub in_bytes : (List ℕ × ℕ) → (List ℕ × ℕ)
in_bytes scaled = (scaled.0, 8 * scaled.1)

abbrev pub or_unit : Option (List ℕ × ℕ) → Option (List ℕ × ℕ) → Option (List ℕ × ℕ)
or_unit None other = other
or_unit (Some unit) other = Some unit

-- a number, and how many bits the unit after it has: `B`, `kB`, `MB`, `GB`, `TB`, `bit`, `kbit`, `Mbit`, `Gbit` or `Tbit`
unfoldable pub unit_in : List ℕ → Option (List ℕ × ℕ)
unit_in word =
    or_unit (option_map (λ head. in_bytes (thousands head)) (before 66 [] word))
    (option_map (λ head. thousands head) (before 98 (codes "it") word))

-- how many parts one has if these digits come after the point; there are at most 18 of them
abbrev pub parts_of : List ℕ → Option ℕ
parts_of digits = if nat_le (length digits) 18 then Some (10 ^ length digits) else None

abbrev pub whole_number : List ℕ → Option Decimal
whole_number text = option_map (λ whole. record { whole = whole; fraction = 0; parts = 1 }) (long_number_in text)

unfoldable pub broken_number : List ℕ → List ℕ → Option Decimal
broken_number whole digits =
    option_and_then (λ w. option_and_then (λ f. option_map (λ p. record { whole = w; fraction = f; parts = p }) (parts_of digits)) (long_number_in digits)) (long_number_in whole)

abbrev pub number_of : List ℕ → Option (List ℕ × List ℕ) → Option Decimal
number_of text None = whole_number text
number_of text (Some cut) = broken_number cut.0 cut.1

-- digits with at most one point, which has digits on both sides
unfoldable pub decimal_in : List ℕ → Option Decimal
decimal_in text = number_of text (cut_at 46 text)

-- how many parts of a bit a number of a unit with so many bits has
abbrev pub top_of : Decimal → ℕ → ℕ
top_of number bits = number.whole * bits * number.parts + number.fraction * bits

-- The least whole number of bytes that isn't below it. `bytes_of` has a clause that it is the least.
abbrev pub bytes_of : Decimal → ℕ → Option ℕ
bytes_of number bits =
    if nat_lt (number.whole * bits) (2 ^ 51) && nat_lt (div_ceil (top_of number bits) (8 * number.parts)) (2 ^ 48)
    then Some (div_ceil (top_of number bits) (8 * number.parts)) else None

-- a bandwidth with a unit, in bytes per second
unfoldable pub rate_in : List ℕ → Option ℕ
rate_in word = option_and_then (λ unit. option_and_then (λ number. bytes_of number unit.1) (decimal_in unit.0)) (unit_in word)

abbrev pub number_or_rate : Option ℕ → List ℕ → Option ℕ
number_or_rate None word = rate_in word
number_or_rate (Some number) word = Some number

-- a bandwidth in bytes per second, with a unit or without
abbrev pub bandwidth_or_rate_in : List ℕ → Option ℕ
bandwidth_or_rate_in word = option_and_then raised (number_or_rate (long_number_in word) word)

-- ---- how a bandwidth is written

-- The greatest unit of which so many bits are a whole number: how many bits it has, and what stands before `bit`. 0 is
-- written in bits.
unfoldable pub unit_of : ℕ → (ℕ × List ℕ)
unit_of bits =
    if bits == 0 then (1, [])
    else if bits % 1_000_000_000_000 == 0 then (1_000_000_000_000, codes "T")
    else if bits % 1_000_000_000 == 0 then (1_000_000_000, codes "G")
    else if bits % 1_000_000 == 0 then (1_000_000, codes "M")
    else if bits % 1_000 == 0 then (1_000, codes "k")
    else (1, [])

abbrev pub in_unit : ℕ → (ℕ × List ℕ) → List ℕ
in_unit bits unit = decimal (bits / unit.0) ++ unit.1 ++ codes "bit"

-- so many bytes per second as a whole number of the greatest unit that allows it
abbrev pub rate_text : ℕ → List ℕ
rate_text bytes = in_unit (8 * bytes) (unit_of (8 * bytes))
