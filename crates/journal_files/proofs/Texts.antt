-- Texts of different lengths.
use Rattle.std.proofs.Common.{◌≡◌, ◌≢◌, ◌-◌, ◌<◌, ◌≤◌, ℕ, suc, ◌&&◌, Bool, true, false, List, [], ◌∷◌, length, drop, refl, sym, ap, arith, length-drop}
use Rattle.std.proofs.lemmas.List.{drop_all}
use Rattle.journal_files.specs.Moments.{fits_byte, fits, not_before}

pub fits-lengths : (xs ys : List ℕ) → length xs ≢ length ys → false ≡ fits xs ys
fits-lengths [] [] h = (absurd (h refl))
fits-lengths [] (y ∷ ys) h = refl
fits-lengths (x ∷ xs) [] h = refl
fits-lengths (x ∷ xs) (y ∷ ys) h =
    let ih = fits-lengths xs ys (λ e. h (ap (λ n. suc n) e)) in rw (sym ih) (false_and (fits_byte x y))
  where
    false_and : (b : Bool) → false ≡ b && false
    false_and true = refl
    false_and false = refl

nothing_before : (text : List ℕ) → 0 < length text → not_before [] text ≡ false
nothing_before [] h = absurd (omega arith)
nothing_before (b ∷ bytes) h = refl

-- a text that ends where another goes on is before it
pub ends_before : (moment other : List ℕ) (i : ℕ) → length moment ≤ i → i < length other → not_before (drop i moment) (drop i other) ≡ false
ends_before moment other i ended more =
    let left : length (drop i other) ≡ length other - i = length-drop i other in
    rw (drop_all i moment ended) (nothing_before (drop i other) (omega (arith, left)))
