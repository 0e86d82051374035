-- The head of a file: a line with the run and the number of the file's first step, the link text, and the line after it.
use Rattle.std.specs.Prelude.{ℕ, ◌-◌, ◌==◌, ◌||◌, Bool, List, [], ◌∷◌, ◌++◌, codes, length, slice_index, if◌then◌else◌}
use Rattle.std.specs.Fmt.{decimal}

-- `journal 1 RUN FIRST`
unfoldable pub head_line : List ℕ → ℕ → List ℕ
head_line run first = codes "journal 1 " ++ (run ++ (codes " " ++ decimal first))

-- each line of a text ends with a line break
abbrev pub has_last_break : List ℕ → Bool
has_last_break text = length text == 0 || slice_index text (length text - 1) == 10

-- a text with a line break at the end of its last line
abbrev pub with_last_break : List ℕ → List ℕ
with_last_break text = if has_last_break text then text else text ++ 10 ∷ []

-- the line after the link text
abbrev pub mark : List ℕ
mark = codes "---"

unfoldable pub head_text : List ℕ → ℕ → List ℕ → List ℕ
head_text run first text = head_line run first ++ (10 ∷ (with_last_break text ++ (mark ++ 10 ∷ [])))
