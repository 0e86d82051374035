-- Words as they are written, each with a space after it: numbers are decimal, addresses dotted, bytes hexadecimal, and `-`
-- stands for what is missing.
use Rattle.std.specs.Prelude.{ℕ, List, [], ◌∷◌, codes, Option, Some, None}
use Rattle.std.specs.Fmt.{decimal}
use Rattle.hex.specs.Hex.{encode_lower}
use Rattle.pcep_word.specs.Address.{text_of as text_of_address}
use Rattle.line_words.specs.Joined.{◌+>◌}

abbrev pub number_word : ℕ → List ℕ
number_word n = decimal n +> codes " "

abbrev pub address_word : ℕ → List ℕ
address_word address = text_of_address address +> codes " "

abbrev pub hex_word : List ℕ → List ℕ
hex_word bytes = encode_lower bytes +> codes " "

abbrev pub or_dash : {A : Type 0} → (A → List ℕ) → Option A → List ℕ
or_dash word None = codes "- "
or_dash word (Some value) = word value

-- what is there is one of these
abbrev pub MayBe : {A : Type 0} → (A → Type 0) → Option A → Type 0
MayBe Is None = Unit {0}
MayBe Is (Some value) = Is value

-- lines, each with its line break
abbrev pub text_of : List (List ℕ) → List ℕ
text_of [] = []
text_of (line ∷ lines) = line +> (10 ∷ text_of lines)
