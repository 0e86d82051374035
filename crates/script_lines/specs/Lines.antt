-- How bytes are cut into lines.
use Rattle.std.specs.Prelude.{ℕ, ◌==◌, List, [], ◌∷◌, ◌++◌, fold, if◌then◌else◌}

-- whole lines, and the bytes after the last line break
abbrev pub Cut : Type 0
Cut = List (List ℕ) × List ℕ

abbrev pub cut_at : Cut → ℕ → Cut
cut_at c byte = if byte == 10 then (c.0 ++ c.1 ∷ [], []) else (c.0, c.1 ++ byte ∷ [])

abbrev pub cut : List ℕ → Cut
cut bytes = fold cut_at ([], []) bytes

-- bytes after the last line break are a line too
abbrev pub with_rest : List (List ℕ) → List ℕ → List (List ℕ)
with_rest lines [] = lines
with_rest lines (b ∷ bs) = lines ++ (b ∷ bs) ∷ []

abbrev pub lines_of : List ℕ → List (List ℕ)
lines_of bytes = with_rest (cut bytes).0 (cut bytes).1
