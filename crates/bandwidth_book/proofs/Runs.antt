-- The last one of each holding priority, in a list in order.
use Rattle.std.proofs.Common.{◌≡◌, ◌≤◌, ◌<◌, ℕ, zero, suc, ◌+◌, ◌-◌, ◌==◌, nat_le, nat_lt, max, true, false, List, [], ◌∷◌, refl, sym, subst, arith, inl, inr, ◌⊎◌, length, get_or, if◌then◌else◌}
use Rattle.std.specs.List.{AllByRecursion}
use Rattle.std.proofs.lemmas.Bool.{cases_Bool}
use Rattle.std.proofs.lemmas.Bool.Decides.{nat_tests}
use Rattle.bandwidth_book.specs.Reservation.{Reservation}
use Rattle.bandwidth_book.specs.Reservation.{AreInOrder, after_all, is_before, last_counts, most, most_below, place_in}
use Rattle.bandwidth_book.proofs.Order.{before_place, place_within}

before_top : (x : Reservation) (p : ℕ) → is_before x (after_all p) ≡ true → x.hold ≤ p
before_top x p b = grind (arith, nat_tests)

not_before_top : (x : Reservation) (p : ℕ) → is_before x (after_all p) ≡ false → p < x.hold
not_before_top x p b = grind (arith, nat_tests)

not_held : (x : Reservation) (p : ℕ) → p < x.hold → nat_le x.hold p ≡ false
not_held x p b = grind (arith, nat_tests)

not_below : (x : Reservation) (p : ℕ) → p < x.hold → nat_lt x.hold p ≡ false
not_below x p b = grind (arith, nat_tests)

later_hold : (x y : Reservation) → is_before y x ≡ false → x.hold ≤ y.hold
later_hold x y b = grind (arith, nat_tests)

later_bandwidth : (x y : Reservation) → is_before y x ≡ false → y.hold ≤ x.hold → x.bandwidth ≤ y.bandwidth
later_bandwidth x y b h = grind (arith, nat_tests)

number_is : (m n : ℕ) → m ≡ n → (m == n) ≡ true
number_is m n e = grind (arith, nat_tests)

over_top : (x : Reservation) (p : ℕ) → p < x.hold → is_before x (after_all p) ≡ false
over_top x p b = grind (arith, nat_tests)

under_top : (x : Reservation) (p : ℕ) → x.hold ≤ p → is_before x (after_all p) ≡ true
under_top x p b = grind (arith, nat_tests)

-- if the first is held at a worse priority, all are
pub none_counted : (p : ℕ) (d : Reservation) (hs : List Reservation) → p < (get_or hs 0 d).hold → place_in (after_all p) hs ≡ 0
none_counted p d [] h = refl
none_counted p d (x ∷ hs) h = let over = over_top x p h in rw over refl

-- if the last is held at the priority or a better one, all are
pub all_counted : (p : ℕ) (d : Reservation) (hs : List Reservation) → AreInOrder hs → (get_or hs (length hs - 1) d).hold ≤ p → length hs ≡ place_in (after_all p) hs
all_counted p d [] o h = refl
all_counted p d (x ∷ hs) o h =
    let last = before_place (after_all p) d (x ∷ hs) (length (x ∷ hs) - 1) o (omega arith) (under_top (get_or (x ∷ hs) (length (x ∷ hs) - 1) d) p h) in
    let within = place_within (after_all p) (x ∷ hs) in
    omega (arith, last, within)

nothing_held : (x : Reservation) (p : ℕ) (hs : List Reservation) → p < x.hold → AllByRecursion (λ y. is_before y x ≡ false) hs → most hs p ≡ 0
nothing_held x p [] n a = refl
nothing_held x p (y ∷ hs) n a =
    let above : p < y.hold = (let l = later_hold x y a.0 in omega (arith, n, l)) in
    let ih = nothing_held x p hs n a.1 in
    rw (not_held y p above) (omega (arith, ih))

nothing_below : (x : Reservation) (p : ℕ) (hs : List Reservation) → p < x.hold → AllByRecursion (λ y. is_before y x ≡ false) hs → most_below hs p ≡ 0
nothing_below x p [] n a = refl
nothing_below x p (y ∷ hs) n a =
    let above : p < y.hold = (let l = later_hold x y a.0 in omega (arith, n, l)) in
    let ih = nothing_below x p hs n a.1 in
    rw (not_below y p above) (omega (arith, ih))

-- the bandwidth of the first counts either below the priority or at it
at_or_below : (x : Reservation) (p : ℕ) → x.hold ≤ p → ((nat_lt x.hold p ≡ true) × (nat_le x.hold p ≡ true)) ⊎ ((x.hold ≡ p) × (nat_lt x.hold p ≡ false) × (nat_le x.hold p ≡ true))
at_or_below x p b =
    let low : nat_le x.hold p ≡ true = grind (arith, nat_tests) in
    elim (cases_Bool (nat_lt x.hold p)) [
      | inl less ↦ inl (less, low)
      | inr other ↦ inr ((let e : x.hold ≡ p = grind (arith, nat_tests) in e), other, low)
    ]

single : (x : Reservation) (p m b : ℕ) → x.hold ≤ p → m ≡ 0 → b ≡ 0
    → max (max (if nat_lt x.hold p then x.bandwidth else 0) b) (last_counts x p) ≡ max (if nat_le x.hold p then x.bandwidth else 0) m
single x p m b h em eb =
    elim (at_or_below x p h) [
      | inl below ↦ (let apart : (x.hold == p) ≡ false = (let l = below.0 in grind (arith, nat_tests)) in rw (below.0, below.1, apart) (omega (arith, em, eb)))
      | inr here ↦ (let same = number_is x.hold p here.0 in rw (here.1, here.2, same) (omega (arith, em, eb)))
    ]

all_at : (x d : Reservation) (hs : List Reservation) (k : ℕ) → AllByRecursion (λ y. is_before y x ≡ false) hs → k < length hs → is_before (get_or hs k d) x ≡ false
all_at x d [] k a n = absurd (omega (arith, n))
all_at x d (y ∷ hs) zero a n = a.0
all_at x d (y ∷ hs) (suc k) a n = all_at x d hs k a.1 (omega (arith, n))

leading_first : (x h d : Reservation) (hs : List Reservation) (k : ℕ) → k < suc (place_in h hs) → is_before x h ≡ true → ((j : ℕ) → j < place_in h hs → is_before (get_or hs j d) h ≡ true) → is_before (get_or (x ∷ hs) k d) h ≡ true
leading_first x h d hs zero n here rest = here
leading_first x h d hs (suc j) n here rest = rest j (omega (arith, n))

leading : (h d : Reservation) (hs : List Reservation) (k : ℕ) → k < place_in h hs → is_before (get_or hs k d) h ≡ true
leading h d [] k n = absurd (omega (arith, n))
leading h d (x ∷ hs) k n =
    elim (cases_Bool (is_before x h)) [
      | inl here ↦ (let m : k < suc (place_in h hs) = rw here at n in leading_first x h d hs k m here (λ j less. leading h d hs j less))
      | inr other ↦ absurd (let m : k < 0 = rw other at n in omega (arith, m))
    ]

place_in_list : (h : Reservation) (hs : List Reservation) → place_in h hs ≤ length hs
place_in_list h [] = omega arith
place_in_list h (x ∷ hs) =
    elim (cases_Bool (is_before x h)) [
      | inl here ↦ (let ih = place_in_list h hs in rw here (omega (arith, ih)))
      | inr other ↦ rw other (omega arith)
    ]

-- the last of a run has at least the bandwidth of each before it
last_is_most : (x y d : Reservation) (p : ℕ) (hs : List Reservation) → AllByRecursion (λ z. is_before z x ≡ false) (y ∷ hs) → x.hold ≡ p → is_before y (after_all p) ≡ true
    → x.bandwidth ≤ last_counts (get_or (y ∷ hs) (place_in (after_all p) hs) d) p
last_is_most x y d p hs a e b =
    let n = place_in (after_all p) hs in
    let last = get_or (y ∷ hs) n d in
    let m : place_in (after_all p) (y ∷ hs) ≡ suc n = rw b refl in
    let inside = place_in_list (after_all p) hs in
    let behind = all_at x d (y ∷ hs) n a (omega (arith, inside)) in
    let low = before_top last p (leading (after_all p) d (y ∷ hs) n (omega (arith, m))) in
    let high = later_hold x last behind in
    let same : last.hold ≡ p = omega (arith, low, high, e) in
    let more = later_bandwidth x last behind (omega (arith, same, e)) in
    rw (number_is last.hold p same) more

pub last_of_run : (p : ℕ) (d x : Reservation) (hs : List Reservation) → AreInOrder (x ∷ hs) → is_before x (after_all p) ≡ true
    → max (most_below (x ∷ hs) p) (last_counts (get_or (x ∷ hs) (place_in (after_all p) hs) d) p) ≡ most (x ∷ hs) p
last_of_run p d x [] o b = single x p 0 0 (before_top x p b) refl refl
last_of_run p d x (y ∷ hs) o b =
    elim (cases_Bool (is_before y (after_all p))) [
      | inl more ↦
          (let ih = last_of_run p d y hs o.1 more in
          let first = before_top x p b in
          elim (at_or_below x p first) [
            | inl below ↦ rw (more, below.0, below.1) (omega (arith, ih))
            | inr here ↦ (let r = last_is_most x y d p hs o.0 here.0 more in rw (more, here.1, here.2) (omega (arith, ih, r)))
          ])
      | inr end ↦
          (let above = not_before_top y p end in
          let none : most (y ∷ hs) p ≡ 0 = (let m = nothing_held y p hs above o.1.0 in rw (not_held y p above) (omega (arith, m))) in
          let none_below : most_below (y ∷ hs) p ≡ 0 = (let m = nothing_below y p hs above o.1.0 in rw (not_below y p above) (omega (arith, m))) in
          rw end (single x p (most (y ∷ hs) p) (most_below (y ∷ hs) p) (before_top x p b) none none_below))
    ]

pub below_next : (hs : List Reservation) (p : ℕ) → most_below hs (p + 1) ≡ most hs p
below_next [] p = refl
below_next (x ∷ hs) p =
    let ih = below_next hs p in
    let e : nat_lt x.hold (p + 1) ≡ nat_le x.hold p = grind (arith, nat_tests) in
    rw e (omega (arith, ih))

pub below_first : (hs : List Reservation) → most_below hs 0 ≡ 0
below_first [] = refl
below_first (x ∷ hs) = let ih = below_first hs in let e : nat_lt x.hold 0 ≡ false = grind (arith, nat_tests) in rw e (omega (arith, ih))

-- the greatest at a priority, from the last that is held at it or a better one
pub last_run : (p : ℕ) (d : Reservation) (hs : List Reservation) (n : ℕ) → AreInOrder hs → n ≡ place_in (after_all p) hs → 0 < n
    → max (most_below hs p) (last_counts (get_or hs (n - 1) d) p) ≡ most hs p
last_run p d [] n o e some = absurd (omega (arith, e, some))
last_run p d (x ∷ hs) n o e some =
    elim (cases_Bool (is_before x (after_all p))) [
      | inl here ↦
          (let e2 : n ≡ suc (place_in (after_all p) hs) = rw here at e in
          let e3 : n - 1 ≡ place_in (after_all p) hs = omega (arith, e2) in
          subst (λ (k : ℕ). max (most_below (x ∷ hs) p) (last_counts (get_or (x ∷ hs) k d) p) ≡ most (x ∷ hs) p) (sym e3) (last_of_run p d x hs o here))
      | inr other ↦ absurd (let e2 : n ≡ 0 = rw other at e in omega (arith, e2, some))
    ]

pub no_run : (p : ℕ) (hs : List Reservation) (n : ℕ) → AreInOrder hs → n ≡ place_in (after_all p) hs → n ≡ 0 → max (most_below hs p) 0 ≡ most hs p
no_run p [] n o e none = refl
no_run p (x ∷ hs) n o e none =
    elim (cases_Bool (is_before x (after_all p))) [
      | inl here ↦ absurd (let e2 : n ≡ suc (place_in (after_all p) hs) = rw here at e in omega (arith, e2, none))
      | inr other ↦
          (let above = not_before_top x p other in
          let held : most (x ∷ hs) p ≡ 0 = (let m = nothing_held x p hs above o.0 in rw (not_held x p above) (omega (arith, m))) in
          let below : most_below (x ∷ hs) p ≡ 0 = (let m = nothing_below x p hs above o.0 in rw (not_below x p above) (omega (arith, m))) in
          omega (arith, held, below))
    ]

pub counts_here : (x : Reservation) (p : ℕ) → x.hold ≡ p → last_counts x p ≡ x.bandwidth
counts_here x p e = rw (number_is x.hold p e) refl

pub counts_not : (x : Reservation) (p : ℕ) → (x.hold ≡ p → ⊥) → last_counts x p ≡ 0
counts_not x p n = let e : (x.hold == p) ≡ false = grind (arith, nat_tests) in rw e refl
