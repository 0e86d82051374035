-- The value that the first word of a text stands for, and the text after that word.
use Rattle.std.specs.Prelude.{ℕ, ◌==◌, Bool, List, length, codes, Option, Some, None, option_and_then, option_map, if◌then◌else◌}
use Rattle.std.specs.Str.{bytes_eq}
use Rattle.pcep_word.specs.Address.{address_of}
use Rattle.asks.specs.Words.{cut_at_space, long_number_in, number_in, plsp_in}
use Rattle.line_words.specs.Words.{bytes_in}

infixl 10 ◌>>=◌
abbrev pub ◌>>=◌ : {A B : Type 0} → Option A → (A → Option B) → Option B
o >>= f = option_and_then f o

abbrev pub is_nothing : List ℕ → Bool
is_nothing text = length text == 0

-- the first word, read so
abbrev pub first : {A : Type 0} → (List ℕ → Option A) → List ℕ → Option (A × List ℕ)
first read text = do
  words ← cut_at_space text
  value ← read words.0
  Some (value, words.1)

unfoldable pub first_number : List ℕ → Option (ℕ × List ℕ)
first_number text = first number_in text

unfoldable pub first_long_number : List ℕ → Option (ℕ × List ℕ)
first_long_number text = first long_number_in text

unfoldable pub first_plsp : List ℕ → Option (ℕ × List ℕ)
first_plsp text = first plsp_in text

unfoldable pub first_address : List ℕ → Option (ℕ × List ℕ)
first_address text = first address_of text

unfoldable pub first_bytes : List ℕ → Option (List ℕ × List ℕ)
first_bytes text = first bytes_in text

-- `-` stands for what is missing
abbrev pub or_missing : {A : Type 0} → (List ℕ → Option A) → List ℕ → Option (Option A)
or_missing read word = if bytes_eq word (codes "-") then Some None else option_map (λ value. Some value) (read word)

unfoldable pub first_number_or_missing : List ℕ → Option (Option ℕ × List ℕ)
first_number_or_missing text = first (or_missing number_in) text

unfoldable pub first_long_or_missing : List ℕ → Option (Option ℕ × List ℕ)
first_long_or_missing text = first (or_missing long_number_in) text

unfoldable pub first_plsp_or_missing : List ℕ → Option (Option ℕ × List ℕ)
first_plsp_or_missing text = first (or_missing plsp_in) text

unfoldable pub first_address_or_missing : List ℕ → Option (Option ℕ × List ℕ)
first_address_or_missing text = first (or_missing address_of) text
