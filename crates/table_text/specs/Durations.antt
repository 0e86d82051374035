-- Durations for people.
use Rattle.std.specs.Prelude.{ℕ, ◌/◌, ◌%◌, List, codes}
use Rattle.std.specs.Fmt.{decimal}
use Rattle.table_text.specs.Adding.{◌+>◌}

-- a number below 100 in two digits
abbrev pub two_digits : ℕ → List ℕ
two_digits number = decimal (number / 10) +> decimal (number % 10)

-- whole seconds that have passed, as days, hours, minutes and seconds: `1 d 02:03:04`
abbrev pub clock_words : ℕ → List ℕ
clock_words s = decimal (s / 86_400) +> codes " d " +> two_digits (s / 3_600 % 24) +> codes ":" +> two_digits (s / 60 % 60) +> codes ":" +> two_digits (s % 60)

-- milliseconds
abbrev pub duration_words : ℕ → List ℕ
duration_words ms = clock_words (ms / 1_000)
