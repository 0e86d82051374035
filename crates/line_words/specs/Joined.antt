-- Texts that follow one another.
use Rattle.std.specs.Prelude.{ℕ, ◌++◌, List}

-- one text, and then another
infixr 5 ◌+>◌
abbrev pub ◌+>◌ : List ℕ → List ℕ → List ℕ
a +> b = a ++ b
