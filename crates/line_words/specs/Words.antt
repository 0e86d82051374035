-- Words of a line. A word has no space in it, and no `=`.
use Rattle.std.specs.Prelude.{ℕ, ◌≡◌, ◌+◌, ◌==◌, ◌&&◌, not, Bool, true, List, take, drop, position, Option, option_map}
use Rattle.std.specs.List.{list_all}
use Rattle.std.specs.Result.{result_ok}
use Rattle.hex.specs.Hex.{decode_of}
use Rattle.asks.specs.Words.{is_space}

abbrev pub is_equals : ℕ → Bool
is_equals byte = byte == 61

-- what stands before the first byte of this kind, and after it
abbrev pub cut_at : (ℕ → Bool) → List ℕ → Option (List ℕ × List ℕ)
cut_at kind line = option_map (λ i. (take i line, drop (i + 1) line)) (position kind line)

abbrev pub cut_at_equals : List ℕ → Option (List ℕ × List ℕ)
cut_at_equals line = cut_at is_equals line

-- what a word may have in it
abbrev pub is_inner : ℕ → Bool
is_inner byte = not (is_space byte) && not (is_equals byte)

abbrev pub IsWord : List ℕ → Type 0
IsWord word = list_all is_inner word ≡ true

-- bytes in hexadecimal of either case
unfoldable pub bytes_in : List ℕ → Option (List ℕ)
bytes_in word = result_ok (decode_of word)
