-- Lists of entries whose links rise.
use Rattle.std.proofs.Common.{◌≡◌, ◌<◌, ◌≤◌, ◌+◌, ◌-◌, ℕ, zero, suc, ◌==◌, true, false, List, [], ◌∷◌, Some, None, length, get_or, slice_get, slice_set, insert, filter, Bool, refl, ap, subst, ◌∙◌, arith, inl, inr, if◌then◌else◌, nat_lt}
use Rattle.std.specs.List.{AllByRecursion}
use Rattle.std.proofs.lemmas.Bool.{cases_Bool, eqb-true}
use Rattle.std.proofs.lemmas.Bool.Decides.{nat_tests}
use Rattle.bandwidth_book.specs.declared.link_entries.LinkEntry.{LinkEntry}
use Rattle.bandwidth_book.specs.Holdings.{Holdings}
use Rattle.bandwidth_book.specs.Entries.{AreRising, entry_on, if_busy, is_busy, place_on}

pub number_self : (a b : ℕ) → a ≡ b → (a == b) ≡ true
number_self a b e = grind (arith, nat_tests)

pub numbers_apart : (a b : ℕ) → (a ≡ b → ⊥) → (a == b) ≡ false
numbers_apart a b n = grind (arith, nat_tests)

above_not : (l m : ℕ) → m < l → (l == m) ≡ false
above_not l m h = grind (arith, nat_tests)

-- ---- the place

pub place_within : (l : ℕ) (xs : List LinkEntry) → place_on l xs ≤ length xs
place_within l [] = omega arith
place_within l (x ∷ xs) =
    elim (cases_Bool (nat_lt x.link l)) [
      | inl here ↦ (let ih = place_within l xs in rw here (omega (arith, ih)))
      | inr other ↦ rw other (omega arith)
    ]

later : (x d : LinkEntry) (xs : List LinkEntry) (k : ℕ) → AllByRecursion (λ (y : LinkEntry). x.link < y.link) xs → k < length xs → x.link < (get_or xs k d).link
later x d [] k a n = absurd (omega (arith, n))
later x d (y ∷ ys) zero a n = a.0
later x d (y ∷ ys) (suc k) a n = later x d ys k a.1 (omega (arith, n))

pub lt_true : (m n : ℕ) → m < n → nat_lt m n ≡ true
lt_true m n h = grind (arith, nat_tests)

pub lt_false : (m n : ℕ) → n ≤ m → nat_lt m n ≡ false
lt_false m n h = grind (arith, nat_tests)

true_lt : (m n : ℕ) → nat_lt m n ≡ true → m < n
true_lt m n h = grind (arith, nat_tests)

false_lt : (m n : ℕ) → nat_lt m n ≡ false → n ≤ m
false_lt m n h = grind (arith, nat_tests)

-- one of a lower link stands before the place
pub before_place : (l : ℕ) (d : LinkEntry) (xs : List LinkEntry) (k : ℕ) → AreRising xs → k < length xs → (get_or xs k d).link < l → k < place_on l xs
before_place l d [] k r n b = absurd (omega (arith, n))
before_place l d (x ∷ xs) zero r n b = let t = lt_true x.link l b in rw t (omega arith)
before_place l d (x ∷ xs) (suc k) r n b =
    let above = later x d xs k r.0 (omega (arith, n)) in
    let t = lt_true x.link l (omega (arith, above, b)) in
    let ih = before_place l d xs k r.1 (omega (arith, n)) b in
    rw t (omega (arith, ih))

-- another stands after it
pub after_place : (l : ℕ) (d : LinkEntry) (xs : List LinkEntry) (k : ℕ) → k < length xs → l ≤ (get_or xs k d).link → place_on l xs ≤ k
after_place l d [] k n b = absurd (omega (arith, n))
after_place l d (x ∷ xs) zero n b = let t = lt_false x.link l b in rw t (omega arith)
after_place l d (x ∷ xs) (suc k) n b =
    elim (cases_Bool (nat_lt x.link l)) [
      | inl here ↦ (let ih = after_place l d xs k (omega (arith, n)) b in rw here (omega (arith, ih)))
      | inr other ↦ rw other (omega arith)
    ]

-- ---- bounds of the place

all_from_zero : (l : ℕ) (xs : List LinkEntry) → AreRising xs → (a : ℕ) → AllByRecursion (λ (y : LinkEntry). a ≤ y.link) xs → place_on l xs ≤ l - a
all_from_zero l [] r a all = omega arith
all_from_zero l (x ∷ xs) r a all =
    elim (cases_Bool (nat_lt x.link l)) [
      | inl here ↦ (
          let ih = all_from_zero l xs r.1 (suc x.link) r.0 in
          let first = all.0 in
          let less = true_lt x.link l here in
          rw here (omega (arith, ih, first, less)))
      | inr other ↦ rw other (omega arith)
    ]

none_below_zero : (xs : List LinkEntry) → AllByRecursion (λ (y : LinkEntry). 0 ≤ y.link) xs
none_below_zero [] = tt
none_below_zero (x ∷ xs) = (omega arith, none_below_zero xs)

-- only lower links stand before it
pub place_most : (l : ℕ) (xs : List LinkEntry) → AreRising xs → place_on l xs ≤ l
place_most l xs r = (let most = all_from_zero l xs r 0 (none_below_zero xs) in omega (arith, most))

first_to_last : (d x : LinkEntry) (xs : List LinkEntry) (n : ℕ) → length xs ≡ n → AreRising (x ∷ xs) → x.link + n ≤ (get_or (x ∷ xs) n d).link
first_to_last d x [] zero e r = omega arith
first_to_last d x [] (suc n) e r = absurd (omega (arith, e))
first_to_last d x (y ∷ ys) zero e r = absurd (omega (arith, e))
first_to_last d x (y ∷ ys) (suc n) e r =
    let ih = first_to_last d y ys n (omega (arith, e)) r.1 in
    let next = r.0.0 in
    omega (arith, ih, next)

-- the last entry's link is no lower than the number of the other entries
pub last_least : (d : LinkEntry) (xs : List LinkEntry) (n : ℕ) → length xs ≡ suc n → AreRising xs → n ≤ (get_or xs n d).link
last_least d [] n e r = absurd (omega (arith, e))
last_least d (x ∷ xs) n e r = let all = first_to_last d x xs n (omega (arith, e)) r in omega (arith, all)

-- all lower links but the missing ones stand before it
pub place_least : (l : ℕ) (d : LinkEntry) (xs : List LinkEntry) (n : ℕ) → length xs ≡ suc n → AreRising xs → place_on l xs < suc n → l + n ≤ place_on l xs + (get_or xs n d).link
place_least l d [] n e r less = absurd (omega (arith, e))
place_least l d (x ∷ xs) zero e r less =
    elim (cases_Bool (nat_lt x.link l)) [
      | inl here ↦ absurd (let inside : suc (place_on l xs) < suc zero = rw here at less in omega (arith, inside))
      | inr other ↦ (let above = false_lt x.link l other in rw other (omega (arith, above)))
    ]
place_least l d (x ∷ xs) (suc n) e r less =
    elim (cases_Bool (nat_lt x.link l)) [
      | inl here ↦ (
          let inside : suc (place_on l xs) < suc (suc n) = rw here at less in
          let ih = place_least l d xs n (omega (arith, e)) r.1 (omega (arith, inside)) in
          rw here (omega (arith, ih)))
      | inr other ↦ (
          let all = first_to_last d x xs (suc n) (omega (arith, e)) r in
          let above = false_lt x.link l other in
          rw other (omega (arith, all, above)))
    ]

-- ---- what is found

pub none_above : (l : ℕ) (xs : List LinkEntry) → AllByRecursion (λ (y : LinkEntry). l < y.link) xs → entry_on l xs ≡ None
none_above l [] a = refl
none_above l (x ∷ xs) a = let e = above_not x.link l a.0 in rw e (none_above l xs a.1)

pub all_above : (a x : ℕ) (xs : List LinkEntry) → a < x → AllByRecursion (λ (y : LinkEntry). x < y.link) xs → AllByRecursion (λ (y : LinkEntry). a < y.link) xs
all_above a x [] h all = tt
all_above a x (y ∷ ys) h all = (let less = all.0 in omega (arith, less, h), all_above a x ys h all.1)

-- if the entry in its place is of another link, or there is none, the link has no entry
pub none_in_place : (l : ℕ) (d : LinkEntry) (xs : List LinkEntry) → AreRising xs → (place_on l xs < length xs → ((get_or xs (place_on l xs) d).link == l) ≡ false) → entry_on l xs ≡ None
none_in_place l d [] r f = refl
none_in_place l d (x ∷ xs) r f =
    elim (cases_Bool (nat_lt x.link l)) [
      | inl here ↦ (
          let less = true_lt x.link l here in
          let e : (x.link == l) ≡ false = numbers_apart x.link l (λ same. absurd (omega (arith, less, same))) in
          let g : suc (place_on l xs) < length (x ∷ xs) → ((get_or xs (place_on l xs) d).link == l) ≡ false = rw here at f in
          rw e (none_in_place l d xs r.1 (λ n. g (omega (arith, n)))))
      | inr other ↦ (
          let g : 0 < length (x ∷ xs) → (x.link == l) ≡ false = rw other at f in
          let e = g (omega arith) in
          let more = false_lt x.link l other in
          let above : l < x.link = grind (arith, nat_tests) in
          rw e (none_above l xs (all_above l x.link xs above r.0)))
    ]

pub get_at : (xs : List LinkEntry) (i : ℕ) (d : LinkEntry) → i < length xs → slice_get xs i ≡ Some (get_or xs i d)
get_at [] i d h = absurd (omega (arith, h))
get_at (x ∷ xs) zero d h = refl
get_at (x ∷ xs) (suc i) d h = get_at xs i d (omega (arith, h))

later_get : (x y : LinkEntry) (xs : List LinkEntry) (i : ℕ) → AllByRecursion (λ (z : LinkEntry). x.link < z.link) xs → slice_get xs i ≡ Some y → x.link < y.link
later_get x y [] i a h = absurd (cc)
later_get x y (z ∷ zs) zero a h = (let e : z ≡ y = cc in subst (λ (w : LinkEntry). x.link < w.link) e a.0)
later_get x y (z ∷ zs) (suc i) a h = later_get x y zs i a.1 h

-- the entry at a place is that of its link
pub found_at : (y : LinkEntry) (xs : List LinkEntry) (i : ℕ) → AreRising xs → slice_get xs i ≡ Some y → entry_on y.link xs ≡ Some y.entry
found_at y [] i r h = absurd (cc)
found_at y (x ∷ xs) zero r h =
    let e : x ≡ y = cc in
    let same = number_self x.link y.link (ap (λ (w : LinkEntry). w.link) e) in
    rw same (ap (λ (w : LinkEntry). Some w.entry) e)
found_at y (x ∷ xs) (suc i) r h =
    let above = later_get x y xs i r.0 h in
    let e : (x.link == y.link) ≡ false = numbers_apart x.link y.link (λ same. absurd (omega (arith, above, same))) in
    rw e (found_at y xs i r.1 h)

-- ---- one is written

pub entry_set : (l : ℕ) (y : LinkEntry) (e : Holdings) (xs : List LinkEntry) (i : ℕ) → AreRising xs → slice_get xs i ≡ Some y
    → entry_on l (slice_set xs i (record { link = y.link; entry = e })) ≡ (if y.link == l then Some e else entry_on l xs)
entry_set l y e [] i r h = absurd (cc)
entry_set l y e (x ∷ xs) zero r h =
    let same : x ≡ y = cc in
    elim (cases_Bool (y.link == l)) [
      | inl here ↦ rw here refl
      | inr other ↦ (let apart : (x.link == l) ≡ false = ap (λ (w : LinkEntry). w.link == l) same ∙ other in rw (other, apart) refl)
    ]
entry_set l y e (x ∷ xs) (suc i) r h =
    let above = later_get x y xs i r.0 h in
    let ih = entry_set l y e xs i r.1 h in
    elim (cases_Bool (x.link == l)) [
      | inl here ↦ (
          let is : x.link ≡ l = eqb-true x.link l here in
          let apart : (y.link == l) ≡ false = numbers_apart y.link l (λ same. absurd (omega (arith, above, is, same))) in
          rw (here, apart) refl)
      | inr other ↦ rw other ih
    ]

all_set : (x y : LinkEntry) (e : Holdings) (xs : List LinkEntry) (i : ℕ) → slice_get xs i ≡ Some y → AllByRecursion (λ (z : LinkEntry). x.link < z.link) xs → AllByRecursion (λ (z : LinkEntry). x.link < z.link) (slice_set xs i (record { link = y.link; entry = e }))
all_set x y e [] i h a = absurd (cc)
all_set x y e (z ∷ zs) zero h a = (let same : z ≡ y = cc in subst (λ (w : LinkEntry). x.link < w.link) same a.0, a.1)
all_set x y e (z ∷ zs) (suc i) h a = (a.0, all_set x y e zs i h a.1)

all_from_first : (x y : LinkEntry) (xs : List LinkEntry) → x.link ≡ y.link → AllByRecursion (λ (z : LinkEntry). x.link < z.link) xs → AllByRecursion (λ (z : LinkEntry). y.link < z.link) xs
all_from_first x y [] s a = tt
all_from_first x y (z ∷ zs) s a = (let less = a.0 in omega (arith, less, s), all_from_first x y zs s a.1)

pub rising_set : (y : LinkEntry) (e : Holdings) (xs : List LinkEntry) (i : ℕ) → AreRising xs → slice_get xs i ≡ Some y → AreRising (slice_set xs i (record { link = y.link; entry = e }))
rising_set y e [] i r h = absurd (cc)
rising_set y e (x ∷ xs) zero r h = (let same : x ≡ y = cc in all_from_first x y xs (ap (λ (w : LinkEntry). w.link) same) r.0, r.1)
rising_set y e (x ∷ xs) (suc i) r h = (all_set x y e xs i h r.0, rising_set y e xs i r.1 h)

-- ---- one is put

pub entry_insert : (l : ℕ) (y : LinkEntry) (xs : List LinkEntry) → entry_on y.link xs ≡ None → entry_on l (insert xs (place_on y.link xs) y) ≡ (if y.link == l then Some y.entry else entry_on l xs)
entry_insert l y [] none = refl
entry_insert l y (x ∷ xs) none =
    elim (cases_Bool (x.link == y.link)) [
      | inl same ↦ absurd (let no : Some x.entry ≡ None = rw same at none in cc)
      | inr apart ↦ (
          let rest : entry_on y.link xs ≡ None = rw apart at none in
          elim (cases_Bool (nat_lt x.link y.link)) [
            | inl here ↦ (
                let ih = entry_insert l y xs rest in
                let less = true_lt x.link y.link here in
                elim (cases_Bool (x.link == l)) [
                  | inl is ↦ (
                      let e : x.link ≡ l = eqb-true x.link l is in
                      let not : (y.link == l) ≡ false = numbers_apart y.link l (λ s. absurd (omega (arith, less, e, s))) in
                      rw (here, is, not) refl)
                  | inr other ↦ rw (here, other) ih
                ])
            | inr other ↦ rw other refl
          ])
    ]

all_insert : (x y : LinkEntry) (xs : List LinkEntry) (i : ℕ) → x.link < y.link → AllByRecursion (λ (z : LinkEntry). x.link < z.link) xs → AllByRecursion (λ (z : LinkEntry). x.link < z.link) (insert xs i y)
all_insert x y [] zero h a = (h, tt)
all_insert x y [] (suc i) h a = (h, tt)
all_insert x y (z ∷ zs) zero h a = (h, a)
all_insert x y (z ∷ zs) (suc i) h a = (a.0, all_insert x y zs i h a.1)

pub rising_insert : (y : LinkEntry) (xs : List LinkEntry) → AreRising xs → entry_on y.link xs ≡ None → AreRising (insert xs (place_on y.link xs) y)
rising_insert y [] r none = (tt, tt)
rising_insert y (x ∷ xs) r none =
    elim (cases_Bool (x.link == y.link)) [
      | inl same ↦ absurd (let no : Some x.entry ≡ None = rw same at none in cc)
      | inr apart ↦ (
          let rest : entry_on y.link xs ≡ None = rw apart at none in
          elim (cases_Bool (nat_lt x.link y.link)) [
            | inl here ↦ rw here (all_insert x y xs (place_on y.link xs) (true_lt x.link y.link here) r.0, rising_insert y xs r.1 rest)
            | inr other ↦ (
                let more = false_lt x.link y.link other in
                let above : y.link < x.link = grind (arith, nat_tests) in
                rw other ((above, all_above y.link x.link xs above r.0), r))
          ])
    ]

-- ---- some are taken out

all_filter : (p : LinkEntry → Bool) (n : ℕ) (xs : List LinkEntry) → AllByRecursion (λ (z : LinkEntry). n < z.link) xs → AllByRecursion (λ (z : LinkEntry). n < z.link) (filter p xs)
all_filter p n [] a = tt
all_filter p n (z ∷ zs) a =
    elim (cases_Bool (p z)) [
      | inl kept ↦ rw kept (a.0, all_filter p n zs a.1)
      | inr gone ↦ rw gone (all_filter p n zs a.1)
    ]

pub rising_filter : (p : LinkEntry → Bool) (xs : List LinkEntry) → AreRising xs → AreRising (filter p xs)
rising_filter p [] r = tt
rising_filter p (x ∷ xs) r =
    elim (cases_Bool (p x)) [
      | inl kept ↦ rw kept (all_filter p x.link xs r.0, rising_filter p xs r.1)
      | inr gone ↦ rw gone (rising_filter p xs r.1)
    ]

-- of the busy entries
pub entry_filter : (l : ℕ) (xs : List LinkEntry) → AreRising xs → entry_on l (filter (λ x. is_busy x.entry) xs) ≡ if_busy (entry_on l xs)
entry_filter l [] r = refl
entry_filter l (x ∷ xs) r =
    let ih = entry_filter l xs r.1 in
    elim (cases_Bool (is_busy x.entry)) [
      | inl kept ↦ elim (cases_Bool (x.link == l)) [
        | inl here ↦ rw (kept, here) (rw kept refl)
        | inr other ↦ rw (kept, other) ih
      ]
      | inr gone ↦ elim (cases_Bool (x.link == l)) [
        | inl here ↦ (
            let is : x.link ≡ l = eqb-true x.link l here in
            let none = none_above l xs (subst (λ (n : ℕ). AllByRecursion (λ (z : LinkEntry). n < z.link) xs) is r.0) in
            rw (gone, here) (rw gone (ih ∙ ap if_busy none)))
        | inr other ↦ rw (gone, other) ih
      ]
    ]
