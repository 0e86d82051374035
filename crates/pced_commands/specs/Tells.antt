-- What `pced tell` sends.
use Rattle.std.specs.Prelude.{ℕ, ◌+◌, ◌==◌, ◌&&◌, ◌||◌, Bool, true, false, List, ◌++◌, length, codes, take, drop, position, Option, Some, None, option_map, option_and_then, if◌then◌else◌}
use Rattle.std.specs.Str.{bytes_eq}
use Rattle.asks.specs.Lines.{is_question}

abbrev pub up_to : Option ℕ → List ℕ → List ℕ
up_to None line = line
up_to (Some n) line = take n line

-- what stands before the first space
abbrev pub first_word : List ℕ → List ℕ
first_word line = up_to (position (λ b. b == 32) line) line

abbrev pub shows : List ℕ → Bool
shows line = is_question (first_word line)

-- if JSON is wanted, a line that asks to see something gets the word `json` in front; any other line is asked as it is
abbrev pub asked : Bool → List ℕ → List ℕ
asked true line = if shows line then codes "json " ++ line else line
asked false line = line

abbrev pub is_explained : List ℕ → Bool
is_explained line = bytes_eq (first_word line) (codes "words")

-- unless it is to be quiet, a line gets the word `words` in front if it hasn't got it, so that its answer is explained
abbrev pub sent : Bool → Bool → List ℕ → List ℕ
sent is_quiet is_json line = if is_quiet || is_explained line then asked is_json line else codes "words " ++ asked is_json line

-- ---- what is heard

abbrev pub cut_at : ℕ → List ℕ → Option (List ℕ × List ℕ)
cut_at byte text = option_map (λ i. (take i text, drop (i + 1) text)) (position (λ b. b == byte) text)

-- an answer of one line and a line `# SENTENCE`, and nothing else: the answer without its line break, and the sentence
unfoldable pub note_in : List ℕ → Option (List ℕ × List ℕ)
note_in heard =
    option_and_then (λ answer. option_and_then (λ sign. option_and_then (λ sentence.
    if bytes_eq sign.0 (codes "#") && length sentence.1 == 0 then Some (answer.0, sentence.0) else None)
    (cut_at 10 sign.1)) (cut_at 32 answer.1)) (cut_at 10 heard)
