-- The first line of a file, the line after its link text, the line after its base, and the places that lines of steps begin with.
use Rattle.std.specs.Prelude.{ℕ, ◌&&◌, Bool, List, codes, Option, None, option_and_then, option_map, if◌then◌else◌}
use Rattle.std.specs.Str.{bytes_eq}
use Rattle.asks.specs.Words.{cut_at_space, long_number_in}

infixl 10 ◌>>=◌
abbrev pub ◌>>=◌ : {A B : Type 0} → Option A → (A → Option B) → Option B
o >>= f = option_and_then f o

-- `journal 1 RUN FIRST`: the run, and the place of the file's first step
unfoldable pub head_in : List ℕ → Option (List ℕ × ℕ)
head_in line = do
  name ← cut_at_space line
  version ← cut_at_space name.1
  run ← cut_at_space version.1
  if bytes_eq name.0 (codes "journal") && bytes_eq version.0 (codes "1") then option_map (λ first. (run.0, first)) (long_number_in run.1) else None

abbrev pub is_mark : List ℕ → Bool
is_mark line = bytes_eq line (codes "---")

abbrev pub is_end : List ℕ → Bool
is_end line = bytes_eq line (codes "end")

unfoldable pub place_in : List ℕ → Option ℕ
place_in line = do
  words ← cut_at_space line
  long_number_in words.0
