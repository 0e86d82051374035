-- The head of a file is read again.
use Rattle.std.proofs.Common.{◌≡◌, ℕ, ◌^◌, ◌<◌, List, [], ◌∷◌, ◌++◌, codes, Some, refl}
use Rattle.std.specs.Fmt.{decimal}
use Rattle.line_words.specs.Words.{IsWord}
use Rattle.line_words.proofs.Again.{ends, number_again}
use Rattle.journal_files.specs.Heads.{head_in}
use Rattle.journal_writing.specs.Heads.{head_line}

pub read_again : (run : List ℕ) (first : ℕ) → IsWord run → first < 2 ^ 64 → head_in (head_line run first) ≡ Some (run, first)
unfolding head_in head_line
read_again run first is small =
    rw (
      ends (codes "journal") (49 ∷ 32 ∷ (run ++ 32 ∷ decimal first)) refl,
      ends (49 ∷ []) (run ++ 32 ∷ decimal first) refl,
      ends run (decimal first) is,
      number_again 64 first small small,
    )
    refl
