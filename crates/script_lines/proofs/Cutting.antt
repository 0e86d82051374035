-- Bytes that are cut into lines, one after the other.
use Rattle.std.proofs.Common.{◌≡◌, ◌≢◌, ℕ, ◌==◌, Bool, true, false, List, [], ◌∷◌, ◌++◌, refl, sym, ◌∙◌, ap, subst, append_assoc, arith}
use Rattle.std.proofs.lemmas.Bool.Decides.{nat_tests}
use Rattle.std.proofs.lemmas.List.{append-nil}
use Rattle.std.proofs.lemmas.List.Sums.{fold_push}
use Rattle.script_lines.specs.Lines.{Cut, cut, cut_at, with_rest, lines_of}

pub cut_break : (ls : List (List ℕ)) (p : List ℕ) (b : ℕ) → (b == 10) ≡ true → cut_at (ls, p) b ≡ (ls ++ p ∷ [], [])
cut_break ls p b e = rw e

pub cut_other : (ls : List (List ℕ)) (p : List ℕ) (b : ℕ) → (b == 10) ≡ false → cut_at (ls, p) b ≡ (ls, p ++ b ∷ [])
cut_other ls p b e = rw e

-- one more byte
pub break_cut : (bytes : List ℕ) (b : ℕ) → b ≡ 10 → cut (bytes ++ b ∷ []) ≡ ((cut bytes).0 ++ (cut bytes).1 ∷ [], [])
break_cut bytes b e = fold_push cut_at ([], []) bytes b ∙ cut_break (cut bytes).0 (cut bytes).1 b (grind (arith, nat_tests))

pub byte_cut : (bytes : List ℕ) (b : ℕ) → b ≢ 10 → cut (bytes ++ b ∷ []) ≡ ((cut bytes).0, (cut bytes).1 ++ b ∷ [])
byte_cut bytes b e = fold_push cut_at ([], []) bytes b ∙ cut_other (cut bytes).0 (cut bytes).1 b (grind (arith, nat_tests))

-- the bytes up to the last line break
pub record WholeLines (bytes : List ℕ) : Type 0 where
  pub front : List ℕ
  pub whole : bytes ≡ front ++ (cut bytes).1
  pub ended : cut front ≡ ((cut bytes).0, [])

front_on : (t : Bool) (bytes : List ℕ) (b : ℕ) → (b == 10) ≡ t → WholeLines bytes → WholeLines (bytes ++ b ∷ [])
front_on true bytes b e f =
    let more : cut (bytes ++ b ∷ []) ≡ ((cut bytes).0 ++ (cut bytes).1 ∷ [], []) = break_cut bytes b (grind (arith, nat_tests)) in
    record {
      front = bytes ++ b ∷ [];
      whole = sym (append-nil (bytes ++ b ∷ [])) ∙ ap (λ (rest : List ℕ). (bytes ++ b ∷ []) ++ rest) (sym (ap (λ (c : Cut). c.1) more));
      ended = more ∙ ap (λ (lines : List (List ℕ)). (lines, [])) (sym (ap (λ (c : Cut). c.0) more));
    }
front_on false bytes b e f =
    let more : cut (bytes ++ b ∷ []) ≡ ((cut bytes).0, (cut bytes).1 ++ b ∷ []) = byte_cut bytes b (grind (arith, nat_tests)) in
    record {
      front = f.front;
      whole = ap (λ (all : List ℕ). all ++ b ∷ []) f.whole ∙ append_assoc f.front (cut bytes).1 (b ∷ []) ∙ ap (λ (rest : List ℕ). f.front ++ rest) (sym (ap (λ (c : Cut). c.1) more));
      ended = f.ended ∙ ap (λ (lines : List (List ℕ)). (lines, [])) (sym (ap (λ (c : Cut). c.0) more));
    }

fronts : (more bytes : List ℕ) → WholeLines bytes → WholeLines (bytes ++ more)
fronts [] bytes f = subst WholeLines (sym (append-nil bytes)) f
fronts (b ∷ more) bytes f = subst WholeLines (append_assoc bytes (b ∷ []) more) (fronts more (bytes ++ b ∷ []) (front_on (b == 10) bytes b refl f))

pub front_of : (bytes : List ℕ) → WholeLines bytes
front_of bytes = fronts bytes [] record { front = []; whole = refl; ended = refl }

-- the lines of bytes that end in a line break, and of bytes that don't
pub ended_lines : (bytes : List ℕ) → (cut bytes).1 ≡ [] → lines_of bytes ≡ (cut bytes).0
ended_lines bytes e = ap (λ (rest : List ℕ). with_rest (cut bytes).0 rest) e

rest_line : (lines : List (List ℕ)) (rest : List ℕ) → rest ≢ [] → with_rest lines rest ≡ lines ++ rest ∷ []
rest_line lines [] some = absurd (some refl)
rest_line lines (b ∷ bs) some = refl

pub unended_lines : (bytes : List ℕ) → (cut bytes).1 ≢ [] → lines_of bytes ≡ (cut bytes).0 ++ (cut bytes).1 ∷ []
unended_lines bytes some = rest_line (cut bytes).0 (cut bytes).1 some
