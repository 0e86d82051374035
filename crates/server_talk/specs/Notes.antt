-- What follows the answer to a line that begins with the word `words`.
use Rattle.std.specs.Prelude.{◌≡◌, ℕ, List, [], ◌++◌, codes, Option, Some, None, ⊤}
use Rattle.answer_words.specs.Sentences.{IsSentenceOf, line_of}

-- a sentence on a line of its own, if there is one
abbrev pub note_text : Option (List ℕ) → List ℕ
note_text None = []
note_text (Some sentence) = codes "# " ++ (sentence ++ codes "\n")

-- Nothing is said, or this says what the answer means. Something is said only of the answer to a line that asks for that.
abbrev pub IsNote : Option (List ℕ) → Option (List ℕ) → List ℕ → Type 0
IsNote None asked answer = ⊤
IsNote (Some sentence) None answer = ⊥
IsNote (Some sentence) (Some line) answer = IsSentenceOf (line_of answer) sentence

-- the line whose answer is to be explained, or nothing
abbrev pub MayExplain : Option (List ℕ) → Option (List ℕ) → Type 0
MayExplain None found = ⊤
MayExplain (Some line) found = found ≡ Some line
