-- Lists of the same items, in another order.
use Rattle.std.proofs.Common.{◌≡◌, ◌≤◌, ◌==◌, ◌&&◌, ℕ, ◌+◌, ◌-◌, Bool, true, false, true≢false, cond, List, [], ◌∷◌, find, IsPermutation, refl, sym, ap, subst, ◌∙◌, arith}
use Rattle.std.specs.Prelude.{Option, Some, None, is_some}
use Rattle.std.specs.List.{AllByRecursion, list_any}
use Rattle.std.proofs.lemmas.Bool.{and_from, and_parts, both_ways, eq-eqb, eqb-true, false_from_ne_true}
use Rattle.std.proofs.lemmas.List.Elements.{All-from_recursion, recursion_from_All}
use Rattle.std.proofs.lemmas.List.Sorted.{All-permutation, IsPermutation-cons, IsPermutation-refl, IsPermutation-sym, IsPermutation-trans}
use Rattle.lsp_base.specs.Lsps.{last_in_front, without_first}
use Rattle.lsp_base.proofs.Swapped.{without_first-permutes}
use Rattle.step_core.specs.Consistent.{count}
use Rattle.step_core.proofs.Counts.{one, count-permuted, count_of_none, none_of, without_first-fewer, without_first-one}

-- ---- the items that pass a test

pub any-permuted : {X : Type 0} (p : X → Bool) (xs ys : List X) → IsPermutation xs ys → list_any p ys ≡ list_any p xs
any-permuted {X} p xs ys same = by (list_any p xs) (list_any p ys) refl refl
  where
    by : (a b : Bool) → list_any p xs ≡ a → list_any p ys ≡ b → b ≡ a
    by true true is js = refl
    by false false is js = refl
    by true false is js = absurd (both_ways (list_any p xs) (none_of p xs (sym (count-permuted p xs ys same) ∙ count_of_none p ys js)) is)
    by false true is js = absurd (both_ways (list_any p ys) (none_of p ys (count-permuted p xs ys same ∙ count_of_none p xs is)) js)

pub found_passes : {X : Type 0} (p : X → Bool) (xs : List X) (x : X) → find p xs ≡ Some x → p x ≡ true
found_passes p [] x found = absurd (true≢false (sym (ap is_some found)))
found_passes {X} p (y ∷ ys) x found = by (p y) refl found (found_passes p ys x)
  where
    by : (b : Bool) → p y ≡ b → cond b (Some y) (find p ys) ≡ Some x → (find p ys ≡ Some x → p x ≡ true) → p x ≡ true
    by true is found rest = let same : y ≡ x = cc in subst (λ (z : X). p z ≡ true) same is
    by false is found rest = rest found

pub found_none : {X : Type 0} (p : X → Bool) (xs : List X) → count p xs ≡ 0 → find p xs ≡ None
found_none p [] none = refl
found_none {X} p (x ∷ xs) none = by (p x) none (found_none p xs)
  where
    by : (b : Bool) → one b + count p xs ≡ 0 → (count p xs ≡ 0 → find p xs ≡ None) → cond b (Some x) (find p xs) ≡ None
    by true none rest = absurd (omega (arith, none))
    by false none rest = rest (omega (arith, none))

pub none_found : {X : Type 0} (p : X → Bool) (xs : List X) → find p xs ≡ None → count p xs ≡ 0
none_found p [] none = refl
none_found {X} p (x ∷ xs) none = by (p x) none (none_found p xs)
  where
    by : (b : Bool) → cond b (Some x) (find p xs) ≡ None → (find p xs ≡ None → count p xs ≡ 0) → one b + count p xs ≡ 0
    by true none rest = absurd (true≢false (ap is_some none))
    by false none rest = let n = rest none in omega (arith, n)

-- this item is the one that is found
abbrev IsFound : {X : Type 0} → (X → Bool) → List X → X → Type 0
IsFound p xs x = p x ≡ true → find p xs ≡ Some x

none_passes : {X : Type 0} (p : X → Bool) (o : Option X) (xs : List X) → count p xs ≡ 0 → AllByRecursion (λ x. p x ≡ true → o ≡ Some x) xs
none_passes p o [] none = tt
none_passes {X} p o (x ∷ xs) none = (λ is. absurd (by (p x) none is), none_passes p o xs (omega (arith, none)))
  where
    by : (b : Bool) → one b + count p xs ≡ 0 → b ≡ true → ⊥
    by true none is = omega (arith, none)
    by false none is = cc

-- if at most one passes, each item that passes is the one that is found
each_found : {X : Type 0} (p : X → Bool) (xs : List X) → count p xs ≤ 1 → AllByRecursion (IsFound p xs) xs
each_found p [] few = tt
each_found {X} p (x ∷ xs) few = by (p x) refl few (each_found p xs)
  where
    by : (b : Bool) → p x ≡ b → one b + count p xs ≤ 1 → (count p xs ≤ 1 → AllByRecursion (IsFound p xs) xs) → AllByRecursion (λ y. p y ≡ true → cond b (Some x) (find p xs) ≡ Some y) (x ∷ xs)
    by true is few rest = (λ _. refl, none_passes p (Some x) xs (omega (arith, few)))
    by false is few rest = (λ here. absurd (both_ways (p x) is here), rest (omega (arith, few)))

found_in : {X : Type 0} (p : X → Bool) (o : Option X) (xs : List X) → AllByRecursion (λ x. p x ≡ true → o ≡ Some x) xs → (y : X) → find p xs ≡ Some y → o ≡ Some y
found_in p o [] all y is = absurd (true≢false (sym (ap is_some is)))
found_in {X} p o (x ∷ xs) all y is = by (p x) refl is (found_in p o xs all.1 y)
  where
    by : (b : Bool) → p x ≡ b → cond b (Some x) (find p xs) ≡ Some y → (find p xs ≡ Some y → o ≡ Some y) → o ≡ Some y
    by true passes is rest = all.0 passes ∙ is
    by false fails is rest = rest is

-- the one item that passes is found in any order
pub find-permuted : {X : Type 0} (p : X → Bool) (xs ys : List X) → count p xs ≤ 1 → IsPermutation xs ys → find p ys ≡ find p xs
find-permuted {X} p xs ys few same = by (find p ys) refl
  where
    by : (o : Option X) → find p ys ≡ o → o ≡ find p xs
    by None is = sym (found_none p xs (sym (count-permuted p xs ys same) ∙ none_found p ys is))
    by (Some y) is = sym (found_in p (find p xs) ys (recursion_from_All (IsFound p xs) ys (All-permutation (IsFound p xs) xs ys same (All-from_recursion (IsFound p xs) xs (each_found p xs few)))) y is)

-- ---- lists that have each item equally often

find-at_once : {X : Type 0} (p : X → Bool) (x : X) (xs : List X) → p x ≡ true → find p (x ∷ xs) ≡ Some x
find-at_once p x xs is = ap (λ b. cond b (Some x) (find p xs)) is

module _ {X : Type 0} (same : X → X → Bool) (itself : (x : X) → same x x ≡ true) (equal : (x y : X) → same x y ≡ true → x ≡ y) where
  found_same : (x : X) (ys : List X) → 1 ≤ count (λ y. same y x) ys → find (λ y. same y x) ys ≡ Some x
  found_same x [] some = absurd (omega (arith, some))
  found_same x (y ∷ ys) some = by (same y x) refl some (found_same x ys)
    where
      by : (b : Bool) → same y x ≡ b → 1 ≤ one b + count (λ z. same z x) ys → (1 ≤ count (λ z. same z x) ys → find (λ z. same z x) ys ≡ Some x) → cond b (Some y) (find (λ z. same z x) ys) ≡ Some x
      by true is some rest = ap Some (equal y x is)
      by false is some rest = rest (omega (arith, some))

  pub permutes_by_counts : (xs ys : List X) → ((x : X) → count (λ y. same y x) xs ≡ count (λ y. same y x) ys) → IsPermutation xs ys
  permutes_by_counts [] [] as_often = IsPermutation-refl []
  permutes_by_counts [] (y ∷ ys) as_often = let own = ap one (itself y) in absurd (omega (arith, own, as_often y))
  permutes_by_counts (x ∷ xs) ys as_often =
      let own = ap one (itself x) in
      let left = without_first-permutes (λ y. same y x) ys x (found_same x ys (omega (arith, own, as_often x))) in
      let rest : (z : X) → count (λ y. same y z) xs ≡ count (λ y. same y z) (without_first (λ y. same y x) ys) = λ z. (let all = count-permuted (λ (y : X). same y z) ys (x ∷ without_first (λ y. same y x) ys) left in omega (arith, all, as_often z)) in
      IsPermutation-trans _ _ _ (IsPermutation-cons x _ _ (permutes_by_counts xs (without_first (λ y. same y x) ys) rest)) (IsPermutation-sym _ _ left)

-- ---- items with a key of two numbers

-- removing the first item of another test leaves which item is found
pub find-without : {X : Type 0} (p test : X → Bool) → ((x : X) → test x ≡ true → p x ≡ false) → (xs : List X) → count p xs ≤ 1 → find p (without_first test xs) ≡ find p xs
find-without {X} p test apart xs few = by (find test xs) refl
  where
    unchanged : (ys : List X) → find test ys ≡ None → without_first test ys ≡ ys
    unchanged [] none = refl
    unchanged (y ∷ ys) none = here (test y) none (unchanged ys)
      where
        here : (b : Bool) → cond b (Some y) (find test ys) ≡ None → (find test ys ≡ None → without_first test ys ≡ ys) → cond b (last_in_front ys) (y ∷ without_first test ys) ≡ y ∷ ys
        here true none rest = absurd (true≢false (ap is_some none))
        here false none rest = ap (λ l. y ∷ l) (rest none)

    by : (o : Option X) → find test xs ≡ o → find p (without_first test xs) ≡ find p xs
    by None is = ap (find p) (unchanged xs is)
    by (Some d) is = sym (ap (λ b. cond b (Some d) (find p (without_first test xs))) (apart d (found_passes test xs d is))) ∙ find-permuted p xs (d ∷ without_first test xs) few (without_first-permutes test xs d is)

-- the item has the key
abbrev pub has_key : {X : Type 0} → (X → ℕ) → (X → ℕ) → ℕ → ℕ → X → Bool
has_key a b m k x = a x == m && b x == k

module _ {X : Type 0} (a b : X → ℕ) where
  own_key : (x : X) → has_key a b (a x) (b x) x ≡ true
  own_key x = and_from (a x == a x) (b x == b x) (eq-eqb (a x) (a x) refl) (eq-eqb (b x) (b x) refl)

  -- if the item has a key, that is its own key
  same_key : (m k : ℕ) (x : X) → has_key a b m k x ≡ true → (y : X) → has_key a b (a x) (b x) y ≡ has_key a b m k y
  same_key m k x is y =
      let parts = and_parts (a x == m) (b x == k) is in
      ap (λ (n : ℕ). a y == n && b y == b x) (eqb-true (a x) m parts.0) ∙ ap (λ (n : ℕ). a y == m && b y == n) (eqb-true (b x) k parts.1)

  -- two items with the same key have no other keys
  other_key : (m k : ℕ) (x : X) → has_key a b m k x ≡ false → (y : X) → has_key a b (a x) (b x) y ≡ true → has_key a b m k y ≡ false
  other_key m k x other y is = false_from_ne_true _ (λ has. both_ways (has_key a b m k x) other (sym (same_key m k y has x) ∙ same_key (a x) (b x) y is x ∙ own_key x))

  -- two lists are the same up to order if no key occurs twice in either, and the same item is found under each key
  pub permutes_by_keys : (xs ys : List X) → ((m k : ℕ) → count (has_key a b m k) xs ≤ 1) → ((m k : ℕ) → count (has_key a b m k) ys ≤ 1) → ((m k : ℕ) → find (has_key a b m k) xs ≡ find (has_key a b m k) ys) → IsPermutation xs ys
  permutes_by_keys [] [] few_xs few_ys found = IsPermutation-refl []
  permutes_by_keys [] (y ∷ ys) few_xs few_ys found = absurd (true≢false (sym (ap is_some (found (a y) (b y) ∙ find-at_once (has_key a b (a y) (b y)) y ys (own_key y)))))
  permutes_by_keys (x ∷ xs) ys few_xs few_ys found =
      let own : find (has_key a b (a x) (b x)) ys ≡ Some x = sym (found (a x) (b x)) ∙ find-at_once (has_key a b (a x) (b x)) x xs (own_key x) in
      let left = without_first-permutes (has_key a b (a x) (b x)) ys x own in
      IsPermutation-trans _ _ _ (IsPermutation-cons x _ _ (permutes_by_keys xs rest (λ m k. let few = few_xs m k in omega (arith, few)) (λ m k. let fewer = without_first-fewer (has_key a b m k) (has_key a b (a x) (b x)) ys in let few = few_ys m k in omega (arith, few, fewer)) (λ m k. by m k (has_key a b m k x) refl (few_xs m k) (found m k)))) (IsPermutation-sym _ _ left)
    where
      rest : List X
      rest = without_first (has_key a b (a x) (b x)) ys

      by : (m k : ℕ) (c : Bool) → has_key a b m k x ≡ c → one c + count (has_key a b m k) xs ≤ 1 → cond c (Some x) (find (has_key a b m k) xs) ≡ find (has_key a b m k) ys → find (has_key a b m k) xs ≡ find (has_key a b m k) (without_first (has_key a b (a x) (b x)) ys)
      by m k true is few there =
          let none : count (has_key a b m k) xs ≡ 0 = omega (arith, few) in
          let gone = without_first-one (has_key a b m k) (has_key a b (a x) (b x)) (same_key m k x is) ys in
          let few_there = few_ys m k in
          found_none (has_key a b m k) xs none ∙ sym (found_none (has_key a b m k) (without_first (has_key a b (a x) (b x)) ys) (omega (arith, gone, few_there)))
      by m k false other few there = there ∙ sym (find-without (has_key a b m k) (has_key a b (a x) (b x)) (other_key m k x other) ys (few_ys m k))
