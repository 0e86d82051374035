-- How many items of a list pass a test, as items come, change and go.
use Rattle.std.proofs.Common.{◌≡◌, ◌≤◌, ◌&&◌, ◌||◌, ℕ, ◌+◌, ◌-◌, Bool, true, false, cond, List, [], ◌∷◌, ◌++◌, map, filter, sum_by, IsPermutation, refl, sym, ap, ◌∙◌, arith}
use Rattle.std.specs.List.{list_any}
use Rattle.std.proofs.lemmas.List.Sums.{sum_by-cons}
use Rattle.std.proofs.lemmas.List.Sorted.{sum_by-IsPermutation}
use Rattle.std.proofs.lemmas.Bool.{both_ways}
use Rattle.lsp_base.specs.Lsps.{HasAll, last_in_front, without_first, without}
use Rattle.lsp_base.specs.declared.path.Path.{Path}
use Rattle.lsp_base.proofs.Removal.{paths_exchanged}
use Rattle.lsp_base.proofs.Swapped.{last_in_front-permutes}
use Rattle.step_core.specs.Consistent.{count}

-- ---- lists

abbrev pub one : Bool → ℕ
one b = cond b 1 0

-- as a sum, which doesn't depend on the order
count-sum : {X : Type 0} (p : X → Bool) (xs : List X) → count p xs ≡ sum_by (λ x. cond (p x) 1 0) xs
count-sum p [] = refl
count-sum p (x ∷ xs) = ap (λ n. cond (p x) 1 0 + n) (count-sum p xs) ∙ sym (sum_by-cons (λ y. cond (p y) 1 0) x xs)

pub count-permuted : {X : Type 0} (p : X → Bool) (xs ys : List X) → IsPermutation xs ys → count p ys ≡ count p xs
count-permuted p xs ys same = count-sum p ys ∙ sum_by-IsPermutation (λ x. cond (p x) 1 0) xs ys same ∙ sym (count-sum p xs)

pub count-append : {X : Type 0} (p : X → Bool) (xs ys : List X) → count p (xs ++ ys) ≡ count p xs + count p ys
count-append p [] ys = omega arith
count-append p (x ∷ xs) ys = let rest = count-append p xs ys in omega (arith, rest)

-- a stricter test passes no more items
pub count-fewer : {X : Type 0} (p q : X → Bool) → ((x : X) → p x ≡ true → q x ≡ true) → (xs : List X) → count p xs ≤ count q xs
count-fewer p q harder [] = omega arith
count-fewer {X} p q harder (x ∷ xs) = by (p x) (q x) refl refl (count-fewer p q harder xs)
  where
    by : (a b : Bool) → p x ≡ a → q x ≡ b → count p xs ≤ count q xs → cond a 1 0 + count p xs ≤ cond b 1 0 + count q xs
    by true true h k rest = omega arith
    by true false h k rest = absurd (both_ways (q x) k (harder x h))
    by false true h k rest = omega arith
    by false false h k rest = omega arith

pub count-same : {X : Type 0} (p q : X → Bool) → ((x : X) → p x ≡ q x) → (xs : List X) → count p xs ≡ count q xs
count-same p q same [] = refl
count-same p q same (x ∷ xs) = let here = ap one (same x) in let rest = count-same p q same xs in omega (arith, here, rest)

pub count-none : {X : Type 0} (p : X → Bool) → ((x : X) → p x ≡ false) → (xs : List X) → count p xs ≡ 0
count-none p none [] = refl
count-none p none (x ∷ xs) = let here = ap one (none x) in let rest = count-none p none xs in omega (arith, here, rest)

pub count-filter : {X : Type 0} (p q : X → Bool) (xs : List X) → count p (filter q xs) ≡ count (λ x. q x && p x) xs
count-filter p q [] = refl
count-filter {X} p q (x ∷ xs) = by (q x) (count-filter p q xs)
  where
    by : (b : Bool) → count p (filter q xs) ≡ count (λ y. q y && p y) xs → count p (cond b (x ∷ filter q xs) (filter q xs)) ≡ cond (b && p x) 1 0 + count (λ y. q y && p y) xs
    by true rest = omega (arith, rest)
    by false rest = omega (arith, rest)

pub count-map : {X Y : Type 0} (p : Y → Bool) (f : X → Y) (xs : List X) → count p (map f xs) ≡ count (λ x. p (f x)) xs
count-map p f [] = refl
count-map p f (x ∷ xs) = let rest = count-map p f xs in omega (arith, rest)

-- no more items of a part of the list pass
pub count-part : {X : Type 0} (p q r : X → Bool) → ((x : X) → q x ≡ true → r x ≡ true) → (xs : List X) → count p (filter q xs) ≤ count p (filter r xs)
count-part {X} p q r part xs =
    let some = count-filter p q xs in
    let all = count-filter p r xs in
    let fewer = count-fewer (λ x. q x && p x) (λ x. r x && p x) (λ x h. both x (q x) (r x) refl refl h) xs in
    omega (arith, some, all, fewer)
  where
    both : (x : X) (a b : Bool) → q x ≡ a → r x ≡ b → (a && p x) ≡ true → (b && p x) ≡ true
    both x true true h k is = is
    both x true false h k is = absurd (both_ways (r x) k (part x h))
    both x false b h k is = absurd (cc (is))

pub count-filtered : {X : Type 0} (p q : X → Bool) (xs : List X) → count p (filter q xs) ≤ count p xs
count-filtered p q [] = omega arith
count-filtered {X} p q (x ∷ xs) = by (q x) (count-filtered p q xs)
  where
    by : (b : Bool) → count p (filter q xs) ≤ count p xs → count p (cond b (x ∷ filter q xs) (filter q xs)) ≤ cond (p x) 1 0 + count p xs
    by true rest = omega (arith, rest)
    by false rest = omega (arith, rest)

-- if the count is 0, none passes
pub none_of : {X : Type 0} (p : X → Bool) (xs : List X) → count p xs ≡ 0 → list_any p xs ≡ false
none_of p [] none = refl
none_of {X} p (x ∷ xs) none = by (p x) none (none_of p xs)
  where
    by : (b : Bool) → cond b 1 0 + count p xs ≡ 0 → (count p xs ≡ 0 → list_any p xs ≡ false) → (b || list_any p xs) ≡ false
    by true more rest = absurd (omega (arith, more))
    by false more rest = rest (omega (arith, more))

pub count_of_none : {X : Type 0} (p : X → Bool) (xs : List X) → list_any p xs ≡ false → count p xs ≡ 0
count_of_none p [] none = refl
count_of_none {X} p (x ∷ xs) none = by (p x) none (count_of_none p xs)
  where
    by : (b : Bool) → (b || list_any p xs) ≡ false → (list_any p xs ≡ false → count p xs ≡ 0) → cond b 1 0 + count p xs ≡ 0
    by true any rest = absurd (cc (any))
    by false any rest = let none = rest any in omega (arith, none)

-- ---- a first item that is removed

last_in_front-count : {X : Type 0} (p : X → Bool) (xs : List X) → count p (last_in_front xs) ≡ count p xs
last_in_front-count p xs = count-permuted p xs (last_in_front xs) (last_in_front-permutes xs)

pub without_first-fewer : {X : Type 0} (p test : X → Bool) (xs : List X) → count p (without_first test xs) ≤ count p xs
without_first-fewer p test [] = omega arith
without_first-fewer {X} p test (x ∷ xs) = by (test x) (without_first-fewer p test xs)
  where
    by : (b : Bool) → count p (without_first test xs) ≤ count p xs → count p (cond b (last_in_front xs) (x ∷ without_first test xs)) ≤ cond (p x) 1 0 + count p xs
    by true rest = let same = last_in_front-count p xs in omega (arith, same)
    by false rest = omega (arith, rest)

-- the removed item fails the counted test
pub without_first-other : {X : Type 0} (p test : X → Bool) → ((x : X) → test x ≡ true → p x ≡ false) → (xs : List X) → count p (without_first test xs) ≡ count p xs
without_first-other p test apart [] = refl
without_first-other {X} p test apart (x ∷ xs) = by (test x) refl (without_first-other p test apart xs)
  where
    by : (b : Bool) → test x ≡ b → count p (without_first test xs) ≡ count p xs → count p (cond b (last_in_front xs) (x ∷ without_first test xs)) ≡ cond (p x) 1 0 + count p xs
    by true is rest = let same = last_in_front-count p xs in let here = ap one (apart x is) in omega (arith, same, here)
    by false is rest = omega (arith, rest)

-- both tests are the same
pub without_first-one : {X : Type 0} (p test : X → Bool) → ((x : X) → test x ≡ p x) → (xs : List X) → count p (without_first test xs) ≡ count p xs - 1
without_first-one p test same [] = refl
without_first-one {X} p test same (x ∷ xs) = by (test x) refl (count_of_first (test x) refl) (without_first-one p test same xs)
  where
    count_of_first : (b : Bool) → test x ≡ b → one (p x) ≡ one b
    count_of_first b is = ap one (sym (same x) ∙ is)

    by : (b : Bool) → test x ≡ b → one (p x) ≡ one b → count p (without_first test xs) ≡ count p xs - 1 → count p (cond b (last_in_front xs) (x ∷ without_first test xs)) ≡ cond (p x) 1 0 + count p xs - 1
    by true is here rest = let same = last_in_front-count p xs in omega (arith, same, here)
    by false is here rest = omega (arith, here, rest)

-- ---- paths

-- the old paths and the added ones are the dropped ones and the new paths
pub count-exchanged : (p : Path → Bool) (paths dropped added : List Path) → HasAll paths dropped → count p paths + count p added ≡ count p dropped + count p (without paths dropped ++ added)
count-exchanged p paths dropped added has =
    let same = count-permuted p (paths ++ added) (dropped ++ (without paths dropped ++ added)) (paths_exchanged paths dropped added has) in
    let left = count-append p paths added in
    let right = count-append p dropped (without paths dropped ++ added) in
    omega (arith, same, left, right)
