-- A priority and a bandwidth in one number: the numbers' order is theirs.
use Rattle.std.proofs.Common.{◌≡◌, ◌<◌, ℕ, ◌+◌, ◌*◌, ◌/◌, ◌%◌, ◌^◌, ◌==◌, ◌&&◌, ◌||◌, nat_lt, refl, arith, inl, inr}
use Rattle.std.proofs.lemmas.Bool.{cases_Bool, eq-eqb, eqb-false, eqb-true, le-ltb, lt-ltb, ltb-false, ltb-true, ne_eqb}
use Rattle.std.proofs.Math.Nat.{div-add-mod, mod-lt}
use Rattle.std.proofs.lemmas.Nat.{div-mul-add, mod-mul-add}
use Rattle.bandwidth_book.specs.Reservation.{Reservation, is_before, same_held}

-- the priority and the bandwidth of a number
abbrev pub parts : ℕ → Reservation
parts n = record { hold = n / 2 ^ 48; bandwidth = n % 2 ^ 48 }

pub hold_of : (hold bandwidth : ℕ) → bandwidth < 2 ^ 48 → (hold * 2 ^ 48 + bandwidth) / 2 ^ 48 ≡ hold
hold_of hold bandwidth h = div-mul-add hold (2 ^ 48) bandwidth h

pub bandwidth_of : (hold bandwidth : ℕ) → bandwidth < 2 ^ 48 → (hold * 2 ^ 48 + bandwidth) % 2 ^ 48 ≡ bandwidth
bandwidth_of hold bandwidth h = mod-mul-add hold (2 ^ 48) bandwidth h

pub rank_of : (n : ℕ) → n / 2 ^ 48 * 2 ^ 48 + n % 2 ^ 48 ≡ n
rank_of n = omega (arith, div-add-mod n (2 ^ 48))

less_by_parts : (a b c d n m : ℕ) → 2 ^ 48 * a + c ≡ n → 2 ^ 48 * b + d ≡ m → c < 2 ^ 48 → d < 2 ^ 48 → nat_lt n m ≡ (nat_lt a b || (a == b && nat_lt c d))
less_by_parts a b c d n m en em hc hd =
    elim (cases_Bool (nat_lt a b)) [
      | inl low ↦ (let l = ltb-true a b low in let r = lt-ltb n m (omega (arith, en, em, hc, hd, l)) in rw (low, r) refl)
      | inr high ↦ (
          let le = ltb-false a b high in
          elim (cases_Bool (a == b)) [
            | inl same ↦ (
                let e = eqb-true a b same in
                elim (cases_Bool (nat_lt c d)) [
                  | inl less ↦ (let l = ltb-true c d less in let r = lt-ltb n m (omega (arith, en, em, e, l)) in rw (high, same, less, r) refl)
                  | inr more ↦ (let g = ltb-false c d more in let r = le-ltb n m (omega (arith, en, em, e, g)) in rw (high, same, more, r) refl)
                ])
            | inr other ↦ (
                let above : b < a = (let apart = eqb-false a b other in omega (arith, le, apart)) in
                let r = le-ltb n m (omega (arith, en, em, hc, hd, above)) in
                rw (high, other, r) refl)
          ])
    ]

same_by_parts : (a b c d n m : ℕ) → 2 ^ 48 * a + c ≡ n → 2 ^ 48 * b + d ≡ m → c < 2 ^ 48 → d < 2 ^ 48 → (n == m) ≡ (a == b && c == d)
same_by_parts a b c d n m en em hc hd =
    elim (cases_Bool (a == b)) [
      | inl same ↦ (
          let e = eqb-true a b same in
          elim (cases_Bool (c == d)) [
            | inl equal ↦ (let q = eqb-true c d equal in let r = eq-eqb n m (omega (arith, en, em, e, q)) in rw (same, equal, r) refl)
            | inr apart ↦ (let q = eqb-false c d apart in let r = ne_eqb n m (λ is. q (omega (arith, en, em, e, is))) in rw (same, apart, r) refl)
          ])
      | inr other ↦ (let q = eqb-false a b other in let r = ne_eqb n m (λ is. q (omega (arith, en, em, hc, hd, is))) in rw (other, r) refl)
    ]

pub before_is : (n m : ℕ) → nat_lt n m ≡ is_before (parts n) (parts m)
before_is n m = less_by_parts (n / 2 ^ 48) (m / 2 ^ 48) (n % 2 ^ 48) (m % 2 ^ 48) n m (div-add-mod n (2 ^ 48)) (div-add-mod m (2 ^ 48)) (mod-lt n (omega arith)) (mod-lt m (omega arith))

pub same_is : (n m : ℕ) → (n == m) ≡ same_held (parts n) (parts m)
same_is n m = same_by_parts (n / 2 ^ 48) (m / 2 ^ 48) (n % 2 ^ 48) (m % 2 ^ 48) n m (div-add-mod n (2 ^ 48)) (div-add-mod m (2 ^ 48)) (mod-lt n (omega arith)) (mod-lt m (omega arith))
