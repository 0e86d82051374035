-- Pages that end where one of two lists is full.
use Rattle.std.proofs.Common.{◌≡◌, ◌<◌, ◌≤◌, ℕ, zero, suc, Bool, true, false, cond, List, [], ◌∷◌, length, take, Option, Some, None, refl, subst, arith}
use Rattle.std.specs.Prelude.{filter, min, max, nat_le, IfSome, IfNone}
use Rattle.std.proofs.lemmas.Bool.{leb-true, leb-false}
use Rattle.pce_seen.specs.Grants.{least, up_to}

module _ {X : Type 0} (p : X → Bool) where
  more : (n m : ℕ) (xs : List X) → n ≤ m → length (filter p (take n xs)) ≤ length (filter p (take m xs))
  more zero m xs h = omega arith
  more (suc n) zero xs h = absurd (omega (arith, h))
  more (suc n) (suc m) [] h = omega arith
  more (suc n) (suc m) (x ∷ xs) h = by (p x) (more n m xs (omega (arith, h)))
    where
      by : (b : Bool) → length (filter p (take n xs)) ≤ length (filter p (take m xs))
          → length (cond b (x ∷ filter p (take n xs)) (filter p (take n xs))) ≤ length (cond b (x ∷ filter p (take m xs)) (filter p (take m xs)))
      by true rest = omega (arith, rest)
      by false rest = rest

  whole : (n : ℕ) (xs : List X) → length (filter p (take n xs)) ≤ length (filter p xs)
  whole zero xs = omega arith
  whole (suc n) [] = omega arith
  whole (suc n) (x ∷ xs) = by (p x) (whole n xs)
    where
      by : (b : Bool) → length (filter p (take n xs)) ≤ length (filter p xs)
          → length (cond b (x ∷ filter p (take n xs)) (filter p (take n xs))) ≤ length (cond b (x ∷ filter p xs) (filter p xs))
      by true rest = omega (arith, rest)
      by false rest = rest

  -- a page has no more items, even if the other list is full sooner
  pub few_first : (xs : List X) (a b : Option ℕ) → IfSome a (λ n. length (filter p (take n xs)) ≡ 256) → IfNone a (length (filter p xs) ≤ 256) → length (filter p (up_to xs (least a b))) ≤ 256
  few_first xs None None full none = none
  few_first xs None (Some b) full none = omega (arith, none, whole b xs)
  few_first xs (Some a) None full none = omega (arith, full)
  few_first xs (Some a) (Some b) full none = omega (arith, full, more (min a b) a xs (omega arith))

  pub few_second : (xs : List X) (a b : Option ℕ) → IfSome b (λ n. length (filter p (take n xs)) ≡ 256) → IfNone b (length (filter p xs) ≤ 256) → length (filter p (up_to xs (least a b))) ≤ 256
  few_second xs None None full none = none
  few_second xs (Some a) None full none = omega (arith, none, whole a xs)
  few_second xs None (Some b) full none = omega (arith, full)
  few_second xs (Some a) (Some b) full none = omega (arith, full, more (min a b) b xs (omega arith))

-- one of the lists is full where the page ends
pub full_both : {X Y : Type 0} (p : X → Bool) (q : Y → Bool) (xs : List X) (ys : List Y) (a b : Option ℕ)
    → IfSome a (λ n. length (filter p (take n xs)) ≡ 256) → IfNone a (length (filter p xs) ≤ 256)
    → IfSome b (λ n. length (filter q (take n ys)) ≡ 256) → IfNone b (length (filter q ys) ≤ 256)
    → IfSome (least a b) (λ n. max (length (filter p (take n xs))) (length (filter q (take n ys))) ≡ 256)
full_both p q xs ys None None fa na fb nb = tt
full_both p q xs ys None (Some b) fa na fb nb = omega (arith, na, fb, whole p b xs)
full_both p q xs ys (Some a) None fa na fb nb = omega (arith, fa, nb, whole q a ys)
full_both p q xs ys (Some a) (Some b) fa na fb nb = by (nat_le a b) refl
  where
    both : ℕ → Type 0
    both n = max (length (filter p (take n xs))) (length (filter q (take n ys))) ≡ 256

    by : (t : Bool) → nat_le a b ≡ t → both (min a b)
    by true is = let below = leb-true a b is in let e : a ≡ min a b = omega (arith, below) in subst both e (omega (arith, fa, fb, more q a b ys below))
    by false is = let below : b ≤ a = omega (arith, leb-false a b is) in let e : b ≡ min a b = omega (arith, below) in subst both e (omega (arith, fa, fb, more p b a xs below))

-- the page ends after its start, and before the end of one of the lists
pub inside_both : {X Y : Type 0} (xs : List X) (ys : List Y) (a b : Option ℕ) → IfSome a (λ n. (0 < n) × (n < length xs)) → IfSome b (λ n. (0 < n) × (n < length ys)) → IfSome (least a b) (λ n. (0 < n) × (n < max (length xs) (length ys)))
inside_both xs ys None None ia ib = tt
inside_both xs ys None (Some b) ia ib = (ib.0, omega (arith, ib.1))
inside_both xs ys (Some a) None ia ib = (ia.0, omega (arith, ia.1))
inside_both xs ys (Some a) (Some b) ia ib = (omega (arith, ia.0, ib.0), omega (arith, ia.1))
