-- Lists of numbers for people.
use Rattle.std.specs.Prelude.{ℕ, List, [], ◌∷◌, codes}
use Rattle.std.specs.Fmt.{decimal}
use Rattle.table_text.specs.Adding.{◌+>◌}

abbrev pub rest_words : List ℕ → List ℕ
rest_words [] = []
rest_words (n ∷ ns) = codes "," +> decimal n +> rest_words ns

-- the numbers joined by commas; a dash if there are none
abbrev pub numbers_words : List ℕ → List ℕ
numbers_words [] = codes "-"
numbers_words (n ∷ ns) = decimal n +> rest_words ns
