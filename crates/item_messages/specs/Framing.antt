-- The header of a message before its length is set.
use Rattle.std.specs.Prelude.{ℕ, List, [], ◌∷◌}

abbrev pub begun : ℕ → List ℕ
begun kind = 0x20 ∷ kind ∷ 0 ∷ 0 ∷ []
