-- What an answer means, in a sentence.
use Rattle.std.specs.Prelude.{◌≡◌, ℕ, ◌+◌, ◌==◌, Bool, List, [], ◌++◌, codes, take, drop, position, Option, Some, None, option_map, if◌then◌else◌}
use Rattle.std.specs.Str.{bytes_eq}

-- a text that grew at its end
abbrev pub Adds : List ℕ → List ℕ → Type 0
Adds old new = (said : List ℕ) × (new ≡ old ++ said)

-- the answer, and what it means
abbrev pub Explains : List ℕ → List ℕ → Type 0
Explains answer text = (meaning : List ℕ) × (text ≡ (answer ++ codes ": ") ++ meaning)

abbrev pub IsSentenceOf : Option (List ℕ) → List ℕ → Type 0
IsSentenceOf None text = ⊥
IsSentenceOf (Some answer) text = Explains answer text

abbrev pub is_line_break : ℕ → Bool
is_line_break byte = byte == 10

abbrev pub if_last : Option (List ℕ × List ℕ) → Option (List ℕ)
if_last None = None
if_last (Some cut) = if bytes_eq cut.1 [] then Some cut.0 else None

abbrev pub cut_at_break : List ℕ → Option (List ℕ × List ℕ)
cut_at_break text = option_map (λ i. (take i text, drop (i + 1) text)) (position is_line_break text)

-- an answer of one line, without its line break
abbrev pub line_of : List ℕ → Option (List ℕ)
line_of answer = if_last (cut_at_break answer)
