-- One element of a list is written, or added at its end.
use Rattle.std.proofs.Common.{◌≡◌, ◌<◌, ℕ, zero, suc, ◌==◌, Bool, true, false, List, [], ◌∷◌, ◌++◌, Option, Some, None, refl, ap, arith, length, slice_get, slice_set, get_or, if◌then◌else◌, append-nil, append_assoc}
use Rattle.std.proofs.lemmas.Bool.{eqb-true}
use Rattle.std.proofs.lemmas.Bool.Decides.{nat_tests}

related : {A : Type 0} (R : Bool → Option A → Option A → Type 0) (xs : List A) (n : ℕ) (d new : A) → n < length xs → R true (Some (get_or xs n d)) (Some new) → ((o : Option A) → R false o o) → (l : ℕ) (b : Bool) → (b ≡ true → n ≡ l) → (b ≡ false → n ≡ l → ⊥) → R b (slice_get xs l) (slice_get (slice_set xs n new) l)
related R [] n d new h there others l b same other = absurd (omega arith)
related R (x ∷ xs) zero d new h there others zero true same other = there
related R (x ∷ xs) zero d new h there others zero false same other = absurd (other refl refl)
related R (x ∷ xs) zero d new h there others (suc l) true same other = absurd (omega (arith, same refl))
related R (x ∷ xs) zero d new h there others (suc l) false same other = others (slice_get xs l)
related R (x ∷ xs) (suc n) d new h there others zero true same other = absurd (omega (arith, same refl))
related R (x ∷ xs) (suc n) d new h there others zero false same other = others (Some x)
related R (x ∷ xs) (suc n) d new h there others (suc l) b same other = related R xs n d new (omega arith) there others l b (λ t. let e : suc n ≡ suc l = same t in omega (arith, e)) (λ f e. other f (ap suc e))

not_same : (a b : ℕ) → (a == b) ≡ false → a ≡ b → ⊥
not_same a b f e = grind (arith, nat_tests)

-- if R relates the old to the new element and each element to itself, it relates the lists at each place
pub set_related : {A : Type 0} (R : Bool → Option A → Option A → Type 0) (xs : List A) (n : ℕ) (d new : A) → n < length xs → R true (Some (get_or xs n d)) (Some new) → ((o : Option A) → R false o o) → (l : ℕ) → R (n == l) (slice_get xs l) (slice_get (slice_set xs n new) l)
set_related R xs n d new h there others l = related R xs n d new h there others l (n == l) (eqb-true n l) (not_same n l)

-- if P holds of the new element, of each old one and past the end, it holds at each place after a push
pub pushed : {A : Type 0} (P : Option A → Type 0) (xs : List A) (x : A) → P (Some x) → P None → ((n : ℕ) → P (slice_get xs n)) → (n : ℕ) → P (slice_get (xs ++ x ∷ []) n)
pushed P [] x here past f zero = here
pushed P [] x here past f (suc n) = past
pushed P (y ∷ xs) x here past f zero = f 0
pushed P (y ∷ xs) x here past f (suc n) = pushed P xs x here past (λ m. f (suc m)) n

-- one more before the rest, if the test holds
pub one_more : {A : Type 0} (b : Bool) (x : A) (before rest : List A) → (before ++ (if b then x ∷ [] else [])) ++ rest ≡ before ++ (if b then x ∷ rest else rest)
one_more true x before rest = append_assoc before (x ∷ []) rest
one_more false x before rest = ap (λ xs. xs ++ rest) (append-nil before)
