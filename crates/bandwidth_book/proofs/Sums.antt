-- The running sums and maxima.
use Rattle.std.proofs.Common.{◌≡◌, ◌≤◌, ℕ, ◌+◌, Bool, true, false, List, [], ◌∷◌, Option, Some, None, refl, ap, arith, inl, inr, max, length, nat_le, if◌then◌else◌}
use Rattle.std.proofs.lemmas.Bool.{cases_Bool}
use Rattle.std.specs.Map.{lookup, set_value}
use Rattle.indexmap.specs.IndexMap.{insert_entry}
use Rattle.bandwidth_book.specs.Reservation.{Reservation}
use Rattle.bandwidth_book.specs.Reservation.{most, is_before, same_held, with_one, without_one}
use Rattle.bandwidth_book.specs.Tunnels.{total}

-- no value counts more than the total
pub one-le-total : {K V : Type 0} (f : Option V → ℕ) (test : K → Bool) (es : List (K × V)) (old : V) → lookup test es ≡ Some old → f (Some old) ≤ total f es
one-le-total f test [] old h = cc
one-le-total f test (e ∷ es) old h =
    elim (cases_Bool (test e.0)) [
      | inl here ↦ (let at : Some e.1 ≡ Some old = rw here at h in let m : f (Some e.1) ≡ f (Some old) = ap f at in omega (arith, m))
      | inr other ↦ (let there : lookup test es ≡ Some old = rw other at h in let ih = one-le-total f test es old there in omega (arith, ih))
    ]

pub most_with_one : (h : Reservation) (hs : List Reservation) (p : ℕ) → most (with_one h hs) p ≡ max (if nat_le h.hold p then h.bandwidth else 0) (most hs p)
most_with_one h [] p = refl
most_with_one h (x ∷ hs) p =
    elim (cases_Bool (is_before x h)) [
      | inl here ↦ (let ih = most_with_one h hs p in rw here (omega (arith, ih)))
      | inr other ↦ rw other refl
    ]

pub at_most : (b : Bool) (n : ℕ) → (if b then n else 0) ≤ n
at_most true n = omega arith
at_most false n = omega arith

pub most-without_one : (h : Reservation) (hs : List Reservation) (p : ℕ) → most (without_one h hs) p ≤ most hs p
most-without_one h [] p = omega arith
most-without_one h (x ∷ hs) p =
    elim (cases_Bool (same_held h x)) [
      | inl here ↦ rw here (omega arith)
      | inr other ↦ (let ih = most-without_one h hs p in rw other (omega (arith, ih)))
    ]

pub length_without_one : (h : Reservation) (hs : List Reservation) → length (without_one h hs) ≤ length hs
length_without_one h [] = omega arith
length_without_one h (x ∷ hs) =
    elim (cases_Bool (same_held h x)) [
      | inl here ↦ rw here (omega arith)
      | inr other ↦ (let ih = length_without_one h hs in rw other (omega (arith, ih)))
    ]

-- inserting a value that counts as nothing leaves the total
pub total_insert : {K V : Type 0} (f : Option V → ℕ) (eq : K → K → Bool) (es : List (K × V)) (k : K) (v : V) → f (Some v) ≡ 0 → lookup (eq k) es ≡ None → total f (insert_entry eq es k v) ≡ total f es
total_insert f eq [] k v nothing none = omega (arith, nothing)
total_insert f eq (e ∷ es) k v nothing none =
    elim (cases_Bool (eq k e.0)) [
      | inl here ↦ (let at : Some e.1 ≡ None = rw here at none in cc)
      | inr other ↦ (let there : lookup (eq k) es ≡ None = rw other at none in let ih = total_insert f eq es k v nothing there in rw other (omega (arith, ih)))
    ]

-- writing a value leaves the number of entries
pub length_set_value : {K X : Type 0} (test : K → Bool) (es : List (K × X)) (new : X) → length (set_value test es new) ≡ length es
length_set_value test [] new = refl
length_set_value test (e ∷ es) new =
    elim (cases_Bool (test e.0)) [
      | inl here ↦ rw here refl
      | inr other ↦ (let ih = length_set_value test es new in rw other (omega (arith, ih)))
    ]

-- inserting one adds at most one entry
pub length_insert_entry : {K X : Type 0} (eq : K → K → Bool) (es : List (K × X)) (k : K) (v : X) → length (insert_entry eq es k v) ≤ length es + 1
length_insert_entry eq [] k v = omega arith
length_insert_entry eq (e ∷ es) k v =
    elim (cases_Bool (eq k e.0)) [
      | inl here ↦ rw here (omega arith)
      | inr other ↦ (let ih = length_insert_entry eq es k v in rw other (omega (arith, ih)))
    ]
