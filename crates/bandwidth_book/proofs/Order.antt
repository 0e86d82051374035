-- Lists in the order of holding priority and bandwidth.
use Rattle.std.proofs.Common.{◌≡◌, ◌≤◌, ◌<◌, ℕ, zero, suc, ◌+◌, true, false, true≢false, List, [], ◌∷◌, refl, sym, ap, subst, ◌∙◌, arith, inl, inr, length, get_or, insert, remove}
use Rattle.std.specs.List.{AllByRecursion}
use Rattle.std.proofs.lemmas.Bool.{cases_Bool}
use Rattle.std.proofs.lemmas.Bool.Decides.{nat_tests}
use Rattle.bandwidth_book.specs.Reservation.{Reservation}
use Rattle.bandwidth_book.specs.Reservation.{AreInOrder, end_in, is_before, place_in, same_held, with_one, without_one}

-- ---- the order

pub not_same_before : (x h : Reservation) → is_before x h ≡ true → same_held h x ≡ false
not_same_before x h b = grind (arith, nat_tests)

-- if y isn't before x but is before h, then x is before h
before_through : (x y h : Reservation) → is_before y x ≡ false → is_before y h ≡ true → is_before x h ≡ true
before_through x y h a b = grind (arith, nat_tests)

-- of two that differ, one is before the other
before_other : (x h : Reservation) → is_before x h ≡ false → same_held h x ≡ false → is_before h x ≡ true
before_other x h a b = grind (arith, nat_tests)

not_before_back : (x h : Reservation) → is_before x h ≡ true → is_before h x ≡ false
not_before_back x h a = grind (arith, nat_tests)

not_before_trans : (x y h : Reservation) → is_before y x ≡ false → is_before x h ≡ false → is_before y h ≡ false
not_before_trans x y h a b = grind (arith, nat_tests)

not_same_after : (x y h : Reservation) → is_before y x ≡ false → is_before h x ≡ true → same_held h y ≡ false
not_same_after x y h a b = grind (arith, nat_tests)

-- ---- the place

pub place_within : (h : Reservation) (hs : List Reservation) → place_in h hs ≤ length hs
place_within h [] = omega arith
place_within h (x ∷ hs) =
    elim (cases_Bool (is_before x h)) [
      | inl here ↦ (let ih = place_within h hs in rw here (omega (arith, ih)))
      | inr other ↦ rw other (omega arith)
    ]

later_before : (x h d : Reservation) (hs : List Reservation) (k : ℕ) → AllByRecursion (λ y. is_before y x ≡ false) hs → k < length hs → is_before (get_or hs k d) h ≡ true → is_before x h ≡ true
later_before x h d [] k a n b = absurd (omega (arith, n))
later_before x h d (y ∷ hs) zero a n b = before_through x y h a.0 b
later_before x h d (y ∷ hs) (suc k) a n b = later_before x h d hs k a.1 (omega (arith, n)) b

-- a reservation that is before h stands before its place
pub before_place : (h d : Reservation) (hs : List Reservation) (k : ℕ) → AreInOrder hs → k < length hs → is_before (get_or hs k d) h ≡ true → k < place_in h hs
before_place h d [] k o n b = absurd (omega (arith, n))
before_place h d (x ∷ hs) zero o n b = rw b (omega arith)
before_place h d (x ∷ hs) (suc k) o n b =
    let first = later_before x h d hs k o.0 (omega (arith, n)) b in
    let ih = before_place h d hs k o.1 (omega (arith, n)) b in
    rw first (omega (arith, ih))

-- a reservation that isn't before h stands at its place or after it
pub after_place : (h d : Reservation) (hs : List Reservation) (k : ℕ) → k < length hs → is_before (get_or hs k d) h ≡ false → place_in h hs ≤ k
after_place h d [] k n b = absurd (omega (arith, n))
after_place h d (x ∷ hs) zero n b = rw b (omega arith)
after_place h d (x ∷ hs) (suc k) n b =
    elim (cases_Bool (is_before x h)) [
      | inl here ↦ (let ih = after_place h d hs k (omega (arith, n)) b in rw here (omega (arith, ih)))
      | inr other ↦ rw other (omega arith)
    ]

-- ---- the end of those that are the same

pub end_within : (h : Reservation) (hs : List Reservation) → end_in h hs ≤ length hs
end_within h [] = omega arith
end_within h (x ∷ hs) =
    elim (cases_Bool (is_before h x)) [
      | inl after ↦ rw after (omega arith)
      | inr other ↦ (let ih = end_within h hs in rw other (omega (arith, ih)))
    ]

-- a reservation that comes after h stands at its end or later
pub before_end : (h d : Reservation) (hs : List Reservation) (k : ℕ) → k < length hs → is_before h (get_or hs k d) ≡ true → end_in h hs ≤ k
before_end h d [] k n b = absurd (omega (arith, n))
before_end h d (x ∷ hs) zero n b = rw b (omega arith)
before_end h d (x ∷ hs) (suc k) n b =
    elim (cases_Bool (is_before h x)) [
      | inl after ↦ rw after (omega arith)
      | inr other ↦ (let ih = before_end h d hs k (omega (arith, n)) b in rw other (omega (arith, ih)))
    ]

later_after : (x h d : Reservation) (hs : List Reservation) (k : ℕ) → AllByRecursion (λ y. is_before y x ≡ false) hs → k < length hs → is_before h (get_or hs k d) ≡ false → is_before h x ≡ false
later_after x h d [] k a n b = absurd (omega (arith, n))
later_after x h d (y ∷ hs) zero a n b = not_before_trans y h x b a.0
later_after x h d (y ∷ hs) (suc k) a n b = later_after x h d hs k a.1 (omega (arith, n)) b

-- a reservation that doesn't come after h stands before its end
pub after_end : (h d : Reservation) (hs : List Reservation) (k : ℕ) → AreInOrder hs → k < length hs → is_before h (get_or hs k d) ≡ false → k < end_in h hs
after_end h d [] k o n b = absurd (omega (arith, n))
after_end h d (x ∷ hs) zero o n b = rw b (omega arith)
after_end h d (x ∷ hs) (suc k) o n b =
    let first = later_after x h d hs k o.0 (omega (arith, n)) b in
    let ih = after_end h d hs k o.1 (omega (arith, n)) b in
    rw first (omega (arith, ih))

-- two reservations of which neither is before the other are equal
neither_before : (x y : Reservation) → is_before x y ≡ false → is_before y x ≡ false → x ≡ y
neither_before x y a b =
    let hold : x.hold ≡ y.hold = grind (arith, nat_tests) in
    let bandwidth : x.bandwidth ≡ y.bandwidth = grind (arith, nat_tests) in
    λ i. record { hold = hold i; bandwidth = bandwidth i }

pub same_is : (h x : Reservation) → same_held h x ≡ true → h ≡ x
same_is h x s =
    let hold : h.hold ≡ x.hold = grind (arith, nat_tests) in
    let bandwidth : h.bandwidth ≡ x.bandwidth = grind (arith, nat_tests) in
    λ i. record { hold = hold i; bandwidth = bandwidth i }

-- ---- one more

-- one more, before a list of which none is before it
first_of_all : (h : Reservation) (hs : List Reservation) → AllByRecursion (λ y. is_before y h ≡ false) hs → with_one h hs ≡ h ∷ hs
first_of_all h [] a = refl
first_of_all h (x ∷ hs) a = let other = a.0 in rw other refl

-- it makes no difference whether it is put before or after those that are the same
pub insert_at_end : (h : Reservation) (hs : List Reservation) → AreInOrder hs → insert hs (end_in h hs) h ≡ with_one h hs
insert_at_end h [] o = refl
insert_at_end h (x ∷ hs) o =
    elim (cases_Bool (is_before h x)) [
      | inl after ↦ (let not = not_before_back h x after in rw (after, not) refl)
      | inr other ↦ elim (cases_Bool (is_before x h)) [
        | inl here ↦ rw (other, here) (ap (λ t. x ∷ t) (insert_at_end h hs o.1))
        | inr not ↦ (
            let same : x ≡ h = neither_before x h not other in
            let all = subst (λ (y : Reservation). AllByRecursion (λ z. is_before z y ≡ false) hs) same o.0 in
            rw (other, not) (ap (λ t. x ∷ t) (insert_at_end h hs o.1 ∙ first_of_all h hs all) ∙ ap (λ (y : Reservation). y ∷ h ∷ hs) same ∙ ap (λ (y : Reservation). h ∷ y ∷ hs) (sym same)))
      ]
    ]

all_with_one : (x h : Reservation) (hs : List Reservation) → AllByRecursion (λ y. is_before y x ≡ false) hs → is_before h x ≡ false → AllByRecursion (λ y. is_before y x ≡ false) (with_one h hs)
all_with_one x h [] a b = (b, tt)
all_with_one x h (y ∷ hs) a b =
    elim (cases_Bool (is_before y h)) [
      | inl here ↦ rw here (a.0, all_with_one x h hs a.1 b)
      | inr other ↦ rw other (b, a)
    ]

all_after : (x h : Reservation) (hs : List Reservation) → AllByRecursion (λ y. is_before y x ≡ false) hs → is_before x h ≡ false → AllByRecursion (λ y. is_before y h ≡ false) hs
all_after x h [] a b = tt
all_after x h (y ∷ hs) a b = (not_before_trans x y h a.0 b, all_after x h hs a.1 b)

pub order_with_one : (h : Reservation) (hs : List Reservation) → AreInOrder hs → AreInOrder (with_one h hs)
order_with_one h [] o = (tt, tt)
order_with_one h (x ∷ hs) o =
    elim (cases_Bool (is_before x h)) [
      | inl here ↦ rw here (all_with_one x h hs o.0 (not_before_back x h here), order_with_one h hs o.1)
      | inr other ↦ rw other ((other, all_after x h hs o.0 other), o)
    ]

pub length_with_one : (h : Reservation) (hs : List Reservation) → length (with_one h hs) ≡ length hs + 1
length_with_one h [] = refl
length_with_one h (x ∷ hs) =
    elim (cases_Bool (is_before x h)) [
      | inl here ↦ (let ih = length_with_one h hs in rw here (omega (arith, ih)))
      | inr other ↦ rw other (omega arith)
    ]

-- ---- one less

all_without_one : (x h : Reservation) (hs : List Reservation) → AllByRecursion (λ y. is_before y x ≡ false) hs → AllByRecursion (λ y. is_before y x ≡ false) (without_one h hs)
all_without_one x h [] a = tt
all_without_one x h (y ∷ hs) a =
    elim (cases_Bool (same_held h y)) [
      | inl here ↦ rw here a.1
      | inr other ↦ rw other (a.0, all_without_one x h hs a.1)
    ]

pub order_without_one : (h : Reservation) (hs : List Reservation) → AreInOrder hs → AreInOrder (without_one h hs)
order_without_one h [] o = tt
order_without_one h (x ∷ hs) o =
    elim (cases_Bool (same_held h x)) [
      | inl here ↦ rw here o.1
      | inr other ↦ rw other (all_without_one x h hs o.0, order_without_one h hs o.1)
    ]

none_later : (x h : Reservation) (hs : List Reservation) → AllByRecursion (λ y. is_before y x ≡ false) hs → is_before h x ≡ true → without_one h hs ≡ hs
none_later x h [] a b = refl
none_later x h (y ∷ hs) a b = let not = not_same_after x y h a.0 b in rw not (ap (λ t. y ∷ t) (none_later x h hs a.1 b))

same_here : (h x : Reservation) → is_before h x ≡ false → is_before x h ≡ false → same_held h x ≡ true
same_here h x a b = grind (arith, nat_tests)

not_same_later : (h x : Reservation) → is_before h x ≡ true → same_held h x ≡ false
not_same_later h x a = grind (arith, nat_tests)

-- after one that is the same as h, what stands before the end is the same too
same_next : (x y h : Reservation) → is_before y x ≡ false → is_before h y ≡ false → same_held h x ≡ true → same_held h y ≡ true
same_next x y h a b s = same_here h y b (subst (λ (z : Reservation). is_before y z ≡ false) (sym (same_is h x s)) a)

last_is_same : (x h d : Reservation) (hs : List Reservation) → AllByRecursion (λ y. is_before y x ≡ false) hs → AreInOrder hs → same_held h x ≡ true → same_held h (get_or (x ∷ hs) (end_in h hs) d) ≡ true
last_is_same x h d [] a o s = s
last_is_same x h d (y ∷ hs) a o s =
    elim (cases_Bool (is_before h y)) [
      | inl after ↦ rw after s
      | inr other ↦ rw other (last_is_same y h d hs o.0 o.1 (same_next x y h a.0 other s))
    ]

-- so it makes no difference which of the same ones goes
without_next : (x h : Reservation) (hs : List Reservation) → AllByRecursion (λ y. is_before y x ≡ false) hs → same_held h x ≡ true → 0 < end_in h hs → x ∷ without_one h hs ≡ hs
without_next x h [] a s n = absurd (omega (arith, n))
without_next x h (y ∷ hs) a s n =
    elim (cases_Bool (is_before h y)) [
      | inl after ↦ absurd (let none : 0 < 0 = rw after at n in omega (arith, none))
      | inr other ↦ (
          let t = same_next x y h a.0 other s in
          let same : x ≡ y = sym (same_is h x s) ∙ same_is h y t in
          rw t (ap (λ (z : Reservation). z ∷ hs) same))
    ]

-- the one before the end is the last that is the same
pub remove_before_end : (h d : Reservation) (hs : List Reservation) (n : ℕ) → suc n ≡ end_in h hs → AreInOrder hs → same_held h (get_or hs n d) ≡ true → remove hs n ≡ without_one h hs
remove_before_end h d [] n e o s = absurd (omega (arith, e))
remove_before_end h d (x ∷ hs) zero e o s = rw s refl
remove_before_end h d (x ∷ hs) (suc n) e o s =
    elim (cases_Bool (is_before h x)) [
      | inl after ↦ absurd (let none : suc (suc n) ≡ 0 = rw after at e in omega (arith, none))
      | inr other ↦ (
          let end : suc (suc n) ≡ suc (end_in h hs) = rw other at e in
          let next : suc n ≡ end_in h hs = omega (arith, end) in
          let rest = ap (λ t. x ∷ t) (remove_before_end h d hs n next o.1 s) in
          elim (cases_Bool (same_held h x)) [
            | inl same ↦ rw same (rest ∙ without_next x h hs o.0 same (omega (arith, next)))
            | inr not ↦ rw not rest
          ])
    ]

-- if the one before the end is another, or there is none, then none is the same
pub none_before_end : (h d : Reservation) (hs : List Reservation) (n : ℕ) → n ≡ end_in h hs → AreInOrder hs → ((k : ℕ) → n ≡ suc k → same_held h (get_or hs k d) ≡ false) → hs ≡ without_one h hs
none_before_end h d [] n e o f = refl
none_before_end h d (x ∷ hs) n e o f =
    elim (cases_Bool (is_before h x)) [
      | inl after ↦ rw (not_same_later h x after) (ap (λ t. x ∷ t) (sym (none_later x h hs o.0 after)))
      | inr other ↦ (
          let end : n ≡ suc (end_in h hs) = rw other at e in
          elim (cases_Bool (same_held h x)) [
            | inl same ↦ absurd (true≢false (sym (last_is_same x h d hs o.0 o.1 same) ∙ f (end_in h hs) end))
            | inr not ↦ rw not (ap (λ t. x ∷ t) (none_before_end h d hs (end_in h hs) refl o.1 (λ k next. f (suc k) (end ∙ ap suc next))))
          ])
    ]
