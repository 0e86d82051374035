-- The sums over two lists of distinct keys are equal if both lists have each key that counts.
use Rattle.std.proofs.Common.{◌≡◌, ℕ, ◌+◌, Bool, true, false, List, [], ◌∷◌, refl, sym, ◌∙◌, arith, inl, inr, if◌then◌else◌}
use Rattle.std.proofs.lemmas.Bool.{cases_Bool}
use Rattle.std.specs.List.{list_any, AllByRecursion, IsDistinct}
use Rattle.std.specs.Cmp.{IsEquivalence}
use Rattle.bandwidth_book.proofs.Totals.{sum_over}

module _ {K : Type 0} where
  pub sum_pointwise : (f g : K → ℕ) (ks : List K) → ((k : K) → f k ≡ g k) → sum_over f ks ≡ sum_over g ks
  sum_pointwise f g [] e = refl
  sum_pointwise f g (k ∷ ks) e = let ih = sum_pointwise f g ks e in let here = e k in omega (arith, here, ih)

  sum_zero : (ks : List K) → 0 ≡ sum_over (λ k. 0) ks
  sum_zero [] = refl
  sum_zero (k ∷ ks) = let ih = sum_zero ks in omega (arith, ih)

  pub sum_add : (f g : K → ℕ) (ks : List K) → sum_over f ks + sum_over g ks ≡ sum_over (λ k. f k + g k) ks
  sum_add f g [] = refl
  sum_add f g (k ∷ ks) = let ih = sum_add f g ks in omega (arith, ih)

  -- the order of two sums plays no part
  swapped : (g : K → K → ℕ) (ks ts : List K) → sum_over (λ k. sum_over (λ t. g k t) ts) ks ≡ sum_over (λ t. sum_over (λ k. g k t) ks) ts
  swapped g [] ts = sum_zero ts
  swapped g (k ∷ ks) ts =
      let ih = swapped g ks ts in
      let a = sum_add (λ t. g k t) (λ t. sum_over (λ j. g j t) ks) ts in
      omega (arith, ih, a)

module _ {K : Type 0} (eq : K → K → Bool) (laws : IsEquivalence eq) (f : K → ℕ) (same : (a b : K) → eq a b ≡ true → f a ≡ f b) where
  no_more : (k t : K) (ts : List K) → eq k t ≡ true → AllByRecursion (λ y. eq t y ≡ false) ts → sum_over (λ y. if eq k y then f y else 0) ts ≡ 0
  no_more k t [] e a = refl
  no_more k t (y ∷ ts) e a =
      let other : eq k y ≡ false = laws.congr k t y e ∙ a.0 in
      let ih = no_more k t ts e a.1 in
      rw other (omega (arith, ih))

  -- a key is picked out of distinct ones
  pub picked : (k : K) (ts : List K) → IsDistinct eq ts → (list_any (eq k) ts ≡ false → f k ≡ 0) → sum_over (λ t. if eq k t then f t else 0) ts ≡ f k
  unfolding IsDistinct
  picked k [] d z = sym (z refl)
  picked k (t ∷ ts) d z =
      elim (cases_Bool (eq k t)) [
        | inl here ↦ (let none = no_more k t ts here d.0 in let s = same k t here in rw here (omega (arith, none, s)))
        | inr other ↦ (let ih = picked k ts d.1 (λ n. z (rw other n)) in rw other (omega (arith, ih)))
      ]

  turned : (k t : K) → (if eq k t then f t else 0) ≡ (if eq t k then f k else 0)
  turned k t =
      let back = laws.symm k t in
      elim (cases_Bool (eq k t)) [
        | inl here ↦ (let there : eq t k ≡ true = sym back ∙ here in let s = same k t here in rw (here, there) (sym s))
        | inr other ↦ (let there : eq t k ≡ false = sym back ∙ other in rw (other, there) refl)
      ]

  pub sums_agree : (ks ts : List K) → IsDistinct eq ks → IsDistinct eq ts → ((k : K) → list_any (eq k) ks ≡ false → f k ≡ 0) → ((k : K) → list_any (eq k) ts ≡ false → f k ≡ 0) → sum_over f ks ≡ sum_over f ts
  sums_agree ks ts dk dt zk zt =
      sym (sum_pointwise (λ k. sum_over (λ t. if eq k t then f t else 0) ts) f ks (λ k. picked k ts dt (zt k)))
      ∙ (swapped (λ k t. if eq k t then f t else 0) ks ts
      ∙ (sum_pointwise (λ t. sum_over (λ k. if eq k t then f t else 0) ks) (λ t. sum_over (λ k. if eq t k then f k else 0) ks) ts (λ t. sum_pointwise (λ k. if eq k t then f t else 0) (λ k. if eq t k then f k else 0) ks (λ k. turned k t))
      ∙ sum_pointwise (λ t. sum_over (λ k. if eq t k then f k else 0) ks) f ts (λ t. picked t ks dk (zk t))))
