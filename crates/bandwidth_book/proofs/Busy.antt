-- Which entries stay when those that hold nothing are taken out.
use Rattle.std.proofs.Common.{◌≡◌, ◌<◌, ℕ, zero, suc, ◌==◌, ◌&&◌, not, Bool, true, false, cond, List, [], ◌∷◌, Option, Some, None, length, refl, sym, subst, ◌∙◌, arith, filter}
use Rattle.std.specs.List.Retain.{RetainsInTurn}
use Rattle.bandwidth_book.specs.Entries.{IsBusy, if_busy, is_busy}
use Rattle.bandwidth_book.specs.Holdings.{Holdings}
use Rattle.bandwidth_book.proofs.Rising.{number_self, numbers_apart}
use Rattle.bandwidth_book.proofs.Written.{no_length}

-- ---- the elements that pass a test, if no call changes the test or an element

pub filtered : {X F : Type 0} (R : F → X → Bool → F → X → Type 0) (test : X → Bool) (f : F)
    → ((x : X) (b : Bool) (f' : F) (y : X) → R f x b f' y → (b ≡ test x) × (f' ≡ f) × (y ≡ x))
    → (xs ys : List X) → RetainsInTurn R f xs ys → ys ≡ filter test xs
filtered R test f says [] ys h = h
filtered R test f says (x ∷ xs) ys h =
    let said = says x h.0 h.1 h.2 h.3 in
    let later = subst (λ g. RetainsInTurn R g xs h.4) said.1 h.5 in
    let rest = filtered R test f says xs h.4 later in
    h.6 ∙ (λ i. cond (said.0 i) (said.2 i ∷ rest i) (rest i))

-- ---- the test

above : (n : ℕ) → (suc n == 0) ≡ false
above n = numbers_apart (suc n) 0 (λ same. absurd (omega (arith, same)))

zeros : (a b : ℕ) → a ≡ 0 → b ≡ 0 → not (a == 0 && b == 0) ≡ false
zeros a b p q = let first = number_self a 0 p in let second = number_self b 0 q in rw (first, second) refl

some : (a b : ℕ) → (a ≡ 0 → 0 < b) → not (a == 0 && b == 0) ≡ true
some (suc a) b f = let first = above a in rw first refl
some zero (suc b) f = let first = number_self 0 0 refl in let second = above b in rw (first, second) refl
some zero zero f = absurd (let less = f refl in omega (arith, less))

pub decided : (idle : Bool) (e : Holdings) → (idle ≡ true → (length e.held ≡ 0) × (e.promised ≡ 0)) → (idle ≡ false → length e.held ≡ 0 → 0 < e.promised) → not idle ≡ is_busy e
decided true e is busy = sym (zeros (length e.held) e.promised (is refl).0 (is refl).1)
decided false e is busy = sym (some (length e.held) e.promised (busy refl))

-- an entry that is busy stays
pub busy_stays : (o : Option Holdings) → IsBusy o → o ≡ if_busy o
busy_stays None busy = refl
busy_stays (Some e) busy =
    let is : is_busy e ≡ true = some (length e.held) e.promised (λ none. busy refl (no_length e.held (omega (arith, none)))) in
    rw is refl
