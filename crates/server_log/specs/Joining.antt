-- One text followed by another.
use Rattle.std.specs.Prelude.{ℕ, ◌++◌, List}

infixr 5 ◌+>◌
abbrev pub ◌+>◌ : List ℕ → List ℕ → List ℕ
a +> b = a ++ b
