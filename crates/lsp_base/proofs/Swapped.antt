-- Lists from which the first element that passes a test was removed; the last element took its place.
use Rattle.std.proofs.Common.{◌≡◌, ℕ, suc, ◌+◌, ◌-◌, ◌<◌, ◌≤◌, Bool, true, false, cond, not, nat_lt, List, [], ◌∷◌, ◌++◌, length, take, drop, get_or, position, swap_remove, filter, find, Some, None, IsPermutation, refl, sym, subst, ◌∙◌, ap, arith}
use Rattle.std.specs.List.{position_or_len}
use Rattle.std.proofs.lemmas.Bool.Decides.{nat_tests}
use Rattle.std.proofs.lemmas.Grind.{common_steps}
use Rattle.std.proofs.lemmas.List.{take-append-drop, drop_more, drop_all}
use Rattle.std.proofs.lemmas.List.Elements.{filter-append}
use Rattle.std.proofs.lemmas.List.Sorted.{IsPermutation-refl, IsPermutation-cons, IsPermutation-trans, IsPermutation-middle, IsPermutation-append_comm}
use Rattle.lsp_base.specs.Lsps.{last_in_front, without_first}

-- ---- the place that is filled

removed_head : {X : Type 0} (y x : X) (ys : List X) → swap_remove (y ∷ ys) 0 x ≡ last_in_front ys
removed_head y x [] = refl
removed_head y x (z ∷ zs) =
    let n = length zs in
    let e : suc (suc n) - 1 ≡ suc n = omega arith in
    let f : suc n - 1 ≡ n = omega arith in
    let last : drop n (z ∷ zs) ≡ get_or (z ∷ zs) n x ∷ [] = drop_more (z ∷ zs) n x (omega arith) ∙ ap (λ t. get_or (z ∷ zs) n x ∷ t) (drop_all (n + 1) (z ∷ zs) (omega arith)) in
    ap (λ k. take k (get_or (y ∷ z ∷ zs) k x ∷ z ∷ zs)) e ∙ sym (ap (λ k. drop k (z ∷ zs) ++ take k (z ∷ zs)) f ∙ ap (λ t. t ++ take n (z ∷ zs)) last)

removed_behind : {X : Type 0} (y z x : X) (zs : List X) (i : ℕ) → swap_remove (y ∷ z ∷ zs) (suc i) x ≡ y ∷ swap_remove (z ∷ zs) i x
removed_behind y z x zs i =
    let e : suc (suc (length zs)) - 1 ≡ suc (length zs) = omega arith in
    let f : suc (length zs) - 1 ≡ length zs = omega arith in
    rw (e, f) refl

-- `swap_remove` at the first place that passes
pub swapped : {X : Type 0} (t : X → Bool) (xs : List X) (d : X) → position_or_len t xs < length xs → swap_remove xs (position_or_len t xs) d ≡ without_first t xs
swapped t [] d h = absurd (omega (arith, h))
swapped t (x ∷ []) d h = by (t x) h
  where
    by : (b : Bool) → cond (not b) (1 + 0) 0 < length (x ∷ []) → swap_remove (x ∷ []) (cond (not b) (1 + 0) 0) d ≡ cond b (last_in_front []) (x ∷ [])
    by true h = removed_head x d []
    by false h = absurd (omega (arith, h))
swapped t (x ∷ y ∷ ys) d h = by (t x) h (swapped t (y ∷ ys) d)
  where
    n : ℕ
    n = position_or_len t (y ∷ ys)

    by : (b : Bool) → cond (not b) (1 + n) 0 < length (x ∷ y ∷ ys) → (n < length (y ∷ ys) → swap_remove (y ∷ ys) n d ≡ without_first t (y ∷ ys))
        → swap_remove (x ∷ y ∷ ys) (cond (not b) (1 + n) 0) d ≡ cond b (last_in_front (y ∷ ys)) (x ∷ without_first t (y ∷ ys))
    by true h rest = removed_head x d (y ∷ ys)
    by false h rest =
        let next : 1 + n ≡ suc n = omega arith in
        ap (λ k. swap_remove (x ∷ y ∷ ys) k d) next ∙ removed_behind x y d ys n ∙ ap (λ l. x ∷ l) (rest (omega (arith, h)))

pub stays : {X : Type 0} (t : X → Bool) (xs : List X) → length xs ≤ position_or_len t xs → xs ≡ without_first t xs
stays t [] h = refl
stays t (x ∷ xs) h = by (t x) h (stays t xs)
  where
    by : (b : Bool) → length (x ∷ xs) ≤ cond (not b) (1 + position_or_len t xs) 0 → (length xs ≤ position_or_len t xs → xs ≡ without_first t xs) → x ∷ xs ≡ cond b (last_in_front xs) (x ∷ without_first t xs)
    by true h rest = absurd (omega (arith, h))
    by false h rest = ap (λ l. x ∷ l) (rest (omega (arith, h)))

at_place : (n m i : ℕ) (b : Bool) → nat_lt n m ≡ b → Some i ≡ cond b (Some n) None → (n ≡ i) × (i < m)
at_place n m i true lt is =
    let same : n ≡ i = cc in
    (same, grind (arith, nat_tests, common_steps))
at_place n m i false lt is = absurd cc

nowhere : (n m : ℕ) (b : Bool) → nat_lt n m ≡ b → None ≡ cond b (Some n) None → m ≤ n
nowhere n m true lt is = absurd cc
nowhere n m false lt is = grind (arith, nat_tests, common_steps)

pub place_within : {X : Type 0} (t : X → Bool) (xs : List X) (i : ℕ) → Some i ≡ position t xs → i < length xs
place_within t xs i is = (at_place (position_or_len t xs) (length xs) i (nat_lt (position_or_len t xs) (length xs)) refl is).1

pub swapped_at : {X : Type 0} (t : X → Bool) (xs : List X) (i : ℕ) (d : X) → Some i ≡ position t xs → swap_remove xs i d ≡ without_first t xs
swapped_at t xs i d is =
    let at = at_place (position_or_len t xs) (length xs) i (nat_lt (position_or_len t xs) (length xs)) refl is in
    ap (λ k. swap_remove xs k d) (sym at.0) ∙ swapped t xs d (omega (arith, at.0, at.1))

pub stays_without : {X : Type 0} (t : X → Bool) (xs : List X) → None ≡ position t xs → xs ≡ without_first t xs
stays_without t xs is = stays t xs (nowhere (position_or_len t xs) (length xs) (nat_lt (position_or_len t xs) (length xs)) refl is)

-- ---- the same elements, whatever their order

pub last_in_front-permutes : {X : Type 0} (xs : List X) → IsPermutation xs (last_in_front xs)
last_in_front-permutes xs =
    let n = length xs - 1 in
    subst (λ ys. IsPermutation ys (last_in_front xs)) (take-append-drop n xs) (IsPermutation-append_comm (take n xs) (drop n xs))

-- the element that went together with what is left
pub without_first-permutes : {X : Type 0} (test : X → Bool) (xs : List X) (x : X) → find test xs ≡ Some x → IsPermutation xs (x ∷ without_first test xs)
without_first-permutes test [] x found = absurd (cc (found))
without_first-permutes {X} test (y ∷ ys) x found = by (test y) found (without_first-permutes test ys x)
  where
    by : (b : Bool) → cond b (Some y) (find test ys) ≡ Some x → (find test ys ≡ Some x → IsPermutation ys (x ∷ without_first test ys)) → IsPermutation (y ∷ ys) (x ∷ cond b (last_in_front ys) (y ∷ without_first test ys))
    by true here rest =
        let same : y ≡ x = cc in
        subst (λ z. IsPermutation (y ∷ ys) (z ∷ last_in_front ys)) same (IsPermutation-cons y _ _ (last_in_front-permutes ys))
    by false later rest = IsPermutation-trans _ _ _ (IsPermutation-cons y _ _ (rest later)) (IsPermutation-middle (y ∷ []) x (without_first test ys))

pub filter-last_in_front : {X : Type 0} (p : X → Bool) (xs : List X) → IsPermutation (filter p xs) (filter p (last_in_front xs))
filter-last_in_front p xs =
    let n = length xs - 1 in
    let before : filter p (take n xs) ++ filter p (drop n xs) ≡ filter p xs = sym (filter-append p (take n xs) (drop n xs)) ∙ ap (filter p) (take-append-drop n xs) in
    let after : filter p (drop n xs) ++ filter p (take n xs) ≡ filter p (last_in_front xs) = sym (filter-append p (drop n xs) (take n xs)) in
    subst (λ ys. IsPermutation ys (filter p (last_in_front xs))) before (subst (IsPermutation (filter p (take n xs) ++ filter p (drop n xs))) after (IsPermutation-append_comm (filter p (take n xs)) (filter p (drop n xs))))

filter-after : {X : Type 0} (p : X → Bool) (x : X) (xs ys : List X) → IsPermutation (filter p xs) (filter p ys) → IsPermutation (filter p (x ∷ xs)) (filter p (x ∷ ys))
filter-after p x xs ys same = by (p x)
  where
    by : (b : Bool) → IsPermutation (cond b (x ∷ filter p xs) (filter p xs)) (cond b (x ∷ filter p ys) (filter p ys))
    by true = IsPermutation-cons x _ _ same
    by false = same

-- the elements that pass another test stay the same, whatever their order
pub without_first-others : {X : Type 0} (p test : X → Bool) → ((x : X) → test x ≡ true → p x ≡ false) → (xs : List X) → IsPermutation (filter p xs) (filter p (without_first test xs))
without_first-others p test apart [] = IsPermutation-refl []
without_first-others {X} p test apart (y ∷ ys) = by (test y) refl (without_first-others p test apart ys)
  where
    by : (b : Bool) → test y ≡ b → IsPermutation (filter p ys) (filter p (without_first test ys)) → IsPermutation (filter p (y ∷ ys)) (filter p (cond b (last_in_front ys) (y ∷ without_first test ys)))
    by true is rest = subst (λ b. IsPermutation (cond b (y ∷ filter p ys) (filter p ys)) (filter p (last_in_front ys))) (sym (apart y is)) (filter-last_in_front p ys)
    by false is rest = filter-after p y ys (without_first test ys) rest
