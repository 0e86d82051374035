-- How often each is held, and the greatest that is.
use Rattle.std.proofs.Common.{◌≡◌, ◌≤◌, ◌<◌, ℕ, ◌+◌, ◌-◌, nat_le, max, Bool, true, false, List, [], ◌∷◌, ◌++◌, refl, sym, subst, ◌∙◌, arith, inl, inr, if◌then◌else◌, true≢false}
use Rattle.std.proofs.lemmas.Bool.{cases_Bool}
use Rattle.std.proofs.lemmas.Bool.Decides.{nat_tests}
use Rattle.bandwidth_book.specs.Reservation.{Reservation}
use Rattle.bandwidth_book.specs.Reservation.{most, times, same_held, is_before, with_one, with_all, without_one, without_all}

pub times_append : (h : Reservation) (a b : List Reservation) → times h (a ++ b) ≡ times h a + times h b
times_append h [] b = grind arith
times_append h (x ∷ a) b = let ih = times_append h a b in omega (arith, ih)

pub same_self : (h : Reservation) → same_held h h ≡ true
same_self h = grind (arith, nat_tests)

same_hold : (a b : Reservation) → same_held a b ≡ true → a.hold ≡ b.hold
same_hold a b h = grind (arith, nat_tests)

same_bandwidth : (a b : Reservation) → same_held a b ≡ true → a.bandwidth ≡ b.bandwidth
same_bandwidth a b h = grind (arith, nat_tests)

same_bool : (h x y : Reservation) → same_held x y ≡ true → same_held h y ≡ same_held h x
same_bool h x y e = let f = same_hold x y e in let b = same_bandwidth x y e in rw (f, b) refl

not_both : (h x y : Reservation) → same_held h x ≡ true → same_held h y ≡ true → same_held x y ≡ true
not_both h x y e f = grind (arith, nat_tests)

apart : (h x y : Reservation) (hs : List Reservation) (a : Bool) → same_held h x ≡ a → (b : Bool) → same_held h y ≡ b → same_held x y ≡ false → times h (without_one x hs) ≡ times h hs - (if same_held h x then 1 else 0) → times h (without_one x (y ∷ hs)) ≡ times h (y ∷ hs) - (if same_held h x then 1 else 0)
apart h x y hs true e true f other ih = absurd (true≢false (sym (not_both h x y e f) ∙ other))
apart h x y hs true e false f other ih = let i : times h (without_one x hs) ≡ times h hs - 1 = rw e at ih in rw (other, e, f) (omega (arith, i))
apart h x y hs false e b f other ih = let i : times h (without_one x hs) ≡ times h hs - 0 = rw e at ih in rw (other, e) (omega (arith, i))

pub times_without_one : (h x : Reservation) (hs : List Reservation) → times h (without_one x hs) ≡ times h hs - (if same_held h x then 1 else 0)
times_without_one h x [] = grind arith
times_without_one h x (y ∷ hs) =
    elim (cases_Bool (same_held x y)) [
      | inl here ↦ (let b = same_bool h x y here in rw (here, b) (omega arith))
      | inr other ↦ apart h x y hs (same_held h x) refl (same_held h y) refl other (times_without_one h x hs)
    ]

pub times_without_all : (h : Reservation) (hs ds : List Reservation) → times h (without_all hs ds) ≡ times h hs - times h ds
times_without_all h hs [] = omega arith
times_without_all h hs (d ∷ ds) = let ih = times_without_all h (without_one d hs) ds in let one = times_without_one h d hs in omega (arith, ih, one)

-- what is held is no more than the greatest
pub held-le-most : (h : Reservation) (hs : List Reservation) (p : ℕ) → 0 < times h hs → nat_le h.hold p ≡ true → h.bandwidth ≤ most hs p
held-le-most h [] p n low = omega arith
held-le-most h (x ∷ hs) p n low =
    elim (cases_Bool (same_held h x)) [
      | inl here ↦ (let low2 : nat_le x.hold p ≡ true = subst (λ (k : ℕ). nat_le k p ≡ true) (same_hold h x here) low in let b = same_bandwidth h x here in rw low2 (omega (arith, b)))
      | inr other ↦ (let m : 0 < times h hs = (let k : 0 < 0 + times h hs = rw other at n in omega (arith, k)) in let ih = held-le-most h hs p m low in omega (arith, ih))
    ]

-- the greatest is no more than a bound of each
pub most-le-bound : (hs : List Reservation) (p m : ℕ) → ((h : Reservation) → 0 < times h hs → nat_le h.hold p ≡ true → h.bandwidth ≤ m) → most hs p ≤ m
most-le-bound [] p m f = omega arith
most-le-bound (x ∷ hs) p m f =
    let ih = most-le-bound hs p m (λ h n. f h (omega (arith, n))) in
    let self = same_self x in
    let here : 0 < times x (x ∷ hs) = rw self (omega arith) in
    elim (cases_Bool (nat_le x.hold p)) [
      | inl low ↦ (let b = f x here low in rw low (omega (arith, ih, b)))
      | inr high ↦ rw high (omega (arith, ih))
    ]

-- lists that hold each reservation equally often have the same greatest bandwidth
pub most_same : (a b : List Reservation) (p : ℕ) → ((h : Reservation) → times h a ≡ times h b) → most a p ≡ most b p
most_same a b p same =
    let below : most a p ≤ most b p = most-le-bound a p (most b p) (λ h n low. held-le-most h b p (let e = same h in omega (arith, e, n)) low) in
    let above : most b p ≤ most a p = most-le-bound b p (most a p) (λ h n low. held-le-most h a p (let e = same h in omega (arith, e, n)) low) in
    omega (arith, below, above)

pub times_with_one : (h x : Reservation) (hs : List Reservation) → times h (with_one x hs) ≡ times h hs + (if same_held h x then 1 else 0)
times_with_one h x [] = omega arith
times_with_one h x (y ∷ hs) =
    elim (cases_Bool (is_before y x)) [
      | inl here ↦ (let ih = times_with_one h x hs in rw here (omega (arith, ih)))
      | inr other ↦ rw other (omega arith)
    ]

pub times_with_all : (h : Reservation) (hs xs : List Reservation) → times h (with_all hs xs) ≡ times h hs + times h xs
times_with_all h hs [] = omega arith
times_with_all h hs (x ∷ xs) = let ih = times_with_all h (with_one x hs) xs in let one = times_with_one h x hs in omega (arith, ih, one)

pub most_append : (a b : List Reservation) (p : ℕ) → most (a ++ b) p ≡ max (most a p) (most b p)
most_append [] b p = omega arith
most_append (x ∷ a) b p = let ih = most_append a b p in omega (arith, ih)
