-- The book: what is unreserved on each link.
use Rattle.std.specs.Prelude.{ℕ, ◌+◌, ℤ, List, [], ◌∷◌, ◌++◌, codes}
use Rattle.std.specs.Fmt.{decimal, signed_decimal}
use Rattle.step_core.specs.States.{State}
use Rattle.te_snapshot.specs.Left.{all_left}

-- each number, after a space
abbrev pub amounts_text : List ℤ → List ℕ
amounts_text [] = []
amounts_text (left ∷ amounts) = codes " " ++ signed_decimal left ++ amounts_text amounts

abbrev pub link_line : ℕ → List ℤ → List ℕ
link_line link amounts = codes "link " ++ decimal link ++ amounts_text amounts ++ codes "\n"

-- a line for each link, starting with this number: what is left of it at each priority, the best priority first
abbrev pub table_text : ℕ → List (List ℤ) → List ℕ
table_text link [] = []
table_text link (amounts ∷ rows) = link_line link amounts ++ table_text (link + 1) rows

abbrev pub book_text : State → List ℕ
book_text s = table_text 0 (all_left s.te.links s.base.paths)
