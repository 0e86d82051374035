-- Lists of numbers that are the same.
use Rattle.std.proofs.Common.{◌≡◌, ◌≢◌, ◌&&◌, suc, ℕ, List, [], ◌∷◌, length, refl, sym, ap, Bool, true, false}
use Rattle.lsp_base.specs.Same.{same_links}

-- lists of different lengths are not the same
pub same_links-lengths : (xs ys : List ℕ) → length xs ≢ length ys → false ≡ same_links xs ys
same_links-lengths [] [] h = (absurd (h refl))
same_links-lengths [] (y ∷ ys) h = refl
same_links-lengths (x ∷ xs) [] h = refl
same_links-lengths (x ∷ xs) (y ∷ ys) h =
    let ih = same_links-lengths xs ys (λ e. h (ap (λ n. suc n) e)) in rw (sym ih) (false_and (Rattle.std.proofs.Common.eqb x y))
  where
    false_and : (b : Bool) → false ≡ b && false
    false_and true = refl
    false_and false = refl
