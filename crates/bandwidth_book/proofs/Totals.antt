-- The total over the entries is the sum over their keys, and small.
use Rattle.std.proofs.Common.{◌≡◌, ◌≤◌, ◌<◌, ℕ, ◌+◌, ◌-◌, ◌*◌, ◌^◌, Bool, false, List, [], ◌∷◌, Option, Some, refl, ◌∙◌, arith, length}
use Rattle.std.specs.List.{AllByRecursion, IsDistinct}
use Rattle.std.specs.Cmp.{IsEquivalence}
use Rattle.std.specs.Map.{keys_of, lookup}
use Rattle.bandwidth_book.specs.Tunnels.{total}

module _ {K : Type 0} where
  abbrev pub sum_over : (K → ℕ) → List K → ℕ
  sum_over f [] = 0
  sum_over f (t ∷ ts) = f t + sum_over f ts

  pub sum_same : (f g : K → ℕ) (ks : List K) → AllByRecursion (λ k. f k ≡ g k) ks → sum_over f ks ≡ sum_over g ks
  sum_same f g [] a = refl
  sum_same f g (k ∷ ks) a = let ih = sum_same f g ks a.1 in let here = a.0 in omega (arith, here, ih)

  sum_small : (f : K → ℕ) (ks : List K) → ((k : K) → f k < 2 ^ 48) → sum_over f ks ≤ length ks * 281474976710655
  sum_small f [] b = omega arith
  sum_small f (k ∷ ks) b = let ih = sum_small f ks b in let here = b k in omega (arith, here, ih)

  count_keys : {V : Type 0} (es : List (K × V)) → length (keys_of es) ≡ length es
  count_keys [] = refl
  count_keys (e ∷ es) = let ih = count_keys es in omega (arith, ih)

module _ {K V : Type 0} (eq : K → K → Bool) (laws : IsEquivalence eq) (f : Option V → ℕ) where
  -- another key's value is looked for after the first entry
  behind : (e : K × V) (es : List (K × V)) (ks : List K) → AllByRecursion (λ k. eq e.0 k ≡ false) ks → AllByRecursion (λ k. f (lookup (eq k) es) ≡ f (lookup (eq k) (e ∷ es))) ks
  behind e es [] a = tt
  behind e es (k ∷ ks) a =
      let other : eq k e.0 ≡ false = laws.symm k e.0 ∙ a.0 in
      (rw other refl, behind e es ks a.1)

  pub total_over_keys : (es : List (K × V)) → IsDistinct eq (keys_of es) → total f es ≡ sum_over (λ k. f (lookup (eq k) es)) (keys_of es)
  unfolding IsDistinct
  total_over_keys [] d = refl
  total_over_keys (e ∷ es) d =
      let ih = total_over_keys es d.1 in
      let first : f (lookup (eq e.0) (e ∷ es)) ≡ f (Some e.1) = rw (laws.refl e.0) refl in
      let rest = sum_same (λ k. f (lookup (eq k) es)) (λ k. f (lookup (eq k) (e ∷ es))) (keys_of es) (behind e es (keys_of es) d.0) in
      omega (arith, ih, first, rest)

  pub total_small : (es : List (K × V)) → IsDistinct eq (keys_of es) → length es ≤ 30000 → ((k : K) → f (lookup (eq k) es) < 2 ^ 48) → total f es < 2 ^ 63 - 2 ^ 48
  total_small es d n b =
      let t = total_over_keys es d in
      let s = sum_small (λ k. f (lookup (eq k) es)) (keys_of es) b in
      let c = count_keys es in
      omega (arith, t, s, c, n)
