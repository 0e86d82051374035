-- What a function that answers for some elements gives for a list.
use Rattle.std.proofs.Common.{◌≡◌, ℕ, zero, suc, ◌+◌, add-one, List, [], ◌∷◌, ◌++◌, take, Option, None, Some, is_some, unwrap_or, slice_get, true≢false, refl, sym, ap, ◌∙◌}
use Rattle.std.specs.List.{filter_map, cons_option}

module _ {X Y : Type 0} (f : X → Option Y) where
  -- what is listed comes from an element
  pub listed_from : (xs : List X) (k : ℕ) (y : Y) → slice_get (filter_map f xs) k ≡ Some y → (i : ℕ) × (x : X) × (slice_get xs i ≡ Some x) × (f x ≡ Some y)
  listed_from [] k y is = absurd (true≢false (sym (ap is_some is)))
  listed_from (x ∷ xs) k y is = by (f x) k refl is (listed_from xs)
    where
      by : (o : Option Y) (k : ℕ) → f x ≡ o → slice_get (cons_option o (filter_map f xs)) k ≡ Some y
          → ((k : ℕ) (y : Y) → slice_get (filter_map f xs) k ≡ Some y → (i : ℕ) × (x : X) × (slice_get xs i ≡ Some x) × (f x ≡ Some y))
          → (i : ℕ) × (z : X) × (slice_get (x ∷ xs) i ≡ Some z) × (f z ≡ Some y)
      by None k e is rest = let r = rest k y is in (suc r.0, r.1, r.2, r.3)
      by (Some z) zero e is rest = (0, x, refl, e ∙ is)
      by (Some z) (suc k) e is rest = let r = rest k y is in (suc r.0, r.1, r.2, r.3)

  -- what an element gives is listed
  pub listed_to : (xs : List X) (i : ℕ) (x : X) (y : Y) → slice_get xs i ≡ Some x → f x ≡ Some y → (k : ℕ) × (slice_get (filter_map f xs) k ≡ Some y)
  listed_to [] i x y is e = absurd (true≢false (sym (ap is_some is)))
  listed_to (a ∷ xs) zero x y is e =
      let same : a ≡ x = ap (λ (o : Option X). unwrap_or o a) is in
      (0, ap (λ (o : Option Y). slice_get (cons_option o (filter_map f xs)) 0) (ap f same ∙ e))
  listed_to (a ∷ xs) (suc i) x y is e = by (f a) (listed_to xs i x y is e)
    where
      by : (o : Option Y) → (k : ℕ) × (slice_get (filter_map f xs) k ≡ Some y) → (k : ℕ) × (slice_get (cons_option o (filter_map f xs)) k ≡ Some y)
      by None r = r
      by (Some z) r = (suc r.0, r.1)

  -- one more element
  pub listed_more : (xs : List X) (at : ℕ) (x : X) → slice_get xs at ≡ Some x → filter_map f (take (suc at) xs) ≡ filter_map f (take at xs) ++ cons_option (f x) []
  listed_more [] at x is = absurd (true≢false (sym (ap is_some is)))
  listed_more (a ∷ xs) zero x is = ap (λ (y : X). cons_option (f y) []) (ap (λ (o : Option X). unwrap_or o a) is)
  listed_more (a ∷ xs) (suc at) x is = by (f a) (filter_map f (take (suc at) xs)) (filter_map f (take at xs)) (cons_option (f x) []) (listed_more xs at x is)
    where
      by : (o : Option Y) (A B C : List Y) → A ≡ B ++ C → cons_option o A ≡ cons_option o B ++ C
      by None A B C r = r
      by (Some z) A B C r = ap (λ (ys : List Y). z ∷ ys) r

  -- what is listed so far, followed by what the next element gives
  pub listed_step : (xs : List X) (at : ℕ) (x : X) (ys zs : List Y) → slice_get xs at ≡ Some x → ys ≡ filter_map f (take at xs) → zs ≡ ys ++ cons_option (f x) []
      → zs ≡ filter_map f (take (at + 1) xs)
  listed_step xs at x ys zs is so_far next =
      next ∙ ap (λ (ys : List Y). ys ++ cons_option (f x) []) so_far ∙ sym (listed_more xs at x is) ∙ ap (λ (n : ℕ). filter_map f (take n xs)) (sym (add-one at))
