-- Lines with the time: `at 2026-11-29T01:30:00Z`. Such texts are in the order of their moments.
use Rattle.std.specs.Prelude.{ℕ, ◌==◌, ◌&&◌, nat_le, nat_lt, Bool, true, false, List, [], ◌∷◌, codes, if◌then◌else◌}

abbrev pub is_digit : ℕ → Bool
is_digit byte = nat_le 48 byte && nat_le byte 57

-- the byte fits the pattern there: `0` stands for a digit, and each other byte for itself
abbrev pub fits_byte : ℕ → ℕ → Bool
fits_byte pattern byte = if pattern == 48 then is_digit byte else pattern == byte

-- byte by byte
abbrev pub fits : List ℕ → List ℕ → Bool
fits [] [] = true
fits [] (b ∷ bytes) = false
fits (p ∷ pattern) [] = false
fits (p ∷ pattern) (b ∷ bytes) = fits_byte p b && fits pattern bytes

abbrev pub moment_pattern : List ℕ
moment_pattern = codes "at 0000-00-00T00:00:00Z"

unfoldable pub is_moment : List ℕ → Bool
is_moment line = fits moment_pattern line

-- by the first byte that is another; nothing is before the empty text
abbrev pub not_before : List ℕ → List ℕ → Bool
not_before moment [] = true
not_before [] (b ∷ bytes) = false
not_before (m ∷ moment) (b ∷ bytes) = if m == b then not_before moment bytes else nat_lt b m
