-- A reservation that another of its priority covers.
use Rattle.std.proofs.Common.{◌≡◌, ◌≤◌, ◌<◌, ◌+◌, ◌-◌, ℕ, zero, suc, nat_le, true, false, List, [], ◌∷◌, length, get_or, refl, sym, subst, arith, inl, inr}
use Rattle.std.proofs.lemmas.Bool.{cases_Bool}
use Rattle.std.proofs.lemmas.Bool.Decides.{nat_tests}
use Rattle.bandwidth_book.specs.declared.reservation.BookOp.{BookOp}
use Rattle.bandwidth_book.specs.declared.reservation.BookOp.TheVariants.{Promise, Add, Drop, Withdraw}
use Rattle.bandwidth_book.specs.Reservation.{Reservation, end_in, is_before, most, moved_one, same_held, times, with_one, without_one}
use Rattle.bandwidth_book.proofs.Counts.{held-le-most, most-le-bound, same_self, times_with_one, times_without_one}
use Rattle.bandwidth_book.proofs.Order.{not_same_before, same_is}

times_at : (hs : List Reservation) (i : ℕ) (d : Reservation) → i < length hs → 0 < times (get_or hs i d) hs
times_at [] i d n = absurd (omega (arith, n))
times_at (x ∷ hs) zero d n = let self = same_self x in rw self (omega arith)
times_at (x ∷ hs) (suc i) d n = let ih = times_at hs i d (omega (arith, n)) in omega (arith, ih)

end_is_after : (h d : Reservation) (hs : List Reservation) → end_in h hs < length hs → is_before h (get_or hs (end_in h hs) d) ≡ true
end_is_after h d [] n = absurd (omega (arith, n))
end_is_after h d (x ∷ hs) n =
    elim (cases_Bool (is_before h x)) [
      | inl after ↦ rw after after
      | inr other ↦ (let rest : suc (end_in h hs) < suc (length hs) = rw other at n in rw other (end_is_after h d hs (omega (arith, rest))))
    ]

more_after : (h x : Reservation) → is_before h x ≡ true → h.hold ≡ x.hold → h.bandwidth ≤ x.bandwidth
more_after h x b e = grind (arith, nat_tests)

-- the second list holds x, and all of the first list but h
covered : (h x : Reservation) (hs bs : List Reservation) → h.hold ≡ x.hold → h.bandwidth ≤ x.bandwidth → 0 < times x bs → ((k : Reservation) → 0 < times k hs → same_held k h ≡ false → 0 < times k bs) → (p : ℕ) → most hs p ≤ most bs p
covered h x hs bs hold less some all p =
    most-le-bound hs p (most bs p) (λ k n low.
    elim (cases_Bool (same_held k h)) [
      | inl same ↦ (
          let low_h : nat_le h.hold p ≡ true = subst (λ (r : Reservation). nat_le r.hold p ≡ true) (same_is k h same) low in
          let low_x : nat_le x.hold p ≡ true = subst (λ (m : ℕ). nat_le m p ≡ true) hold low_h in
          let top = held-le-most x bs p some low_x in
          subst (λ (r : Reservation). r.bandwidth ≤ most bs p) (sym (same_is k h same)) (omega (arith, less, top)))
      | inr other ↦ held-le-most k bs p (all k n other) low
    ])

moved_below : (op : BookOp) (h x : Reservation) (hs : List Reservation) (p : ℕ) → 0 < times x hs → is_before h x ≡ true → h.hold ≡ x.hold → most (moved_one op h hs) p ≡ most hs p
moved_below Promise h x hs p some before hold = refl
moved_below Withdraw h x hs p some before hold = refl
moved_below Add h x hs p some before hold =
    let less = more_after h x before hold in
    let up = covered h x (with_one h hs) hs hold less some (λ k n other. let t = times_with_one k h hs in (let u : times k (with_one h hs) ≡ times k hs + 0 = rw other at t in omega (arith, n, u))) p in
    let there = times_with_one x h hs in
    let down = covered h x hs (with_one h hs) hold less (omega (arith, some, there)) (λ k n other. let t = times_with_one k h hs in omega (arith, n, t)) p in
    omega (arith, up, down)
moved_below Drop h x hs p some before hold =
    let less = more_after h x before hold in
    let up = covered h x (without_one h hs) hs hold less some (λ k n other. let t = times_without_one k h hs in omega (arith, n, t)) p in
    let apart = not_same_before h x before in
    let there = times_without_one x h hs in
    let stays : times x (without_one h hs) ≡ times x hs - 0 = rw apart at there in
    let down = covered h x hs (without_one h hs) hold less (omega (arith, some, stays)) (λ k n other. let t = times_without_one k h hs in (let u : times k (without_one h hs) ≡ times k hs - 0 = rw other at t in omega (arith, n, u))) p in
    omega (arith, up, down)

-- the reservation at the place where those begin that come after h
pub below_next : (op : BookOp) (h x : Reservation) (hs : List Reservation) (n p : ℕ) → n ≡ end_in h hs → n < length hs → x ≡ get_or hs n x → x.hold ≡ h.hold → most (moved_one op h hs) p ≡ most hs p
below_next op h x hs n p end less is hold =
    let some : 0 < times x hs = subst (λ (r : Reservation). 0 < times r hs) (sym is) (times_at hs n x less) in
    let at : is_before h (get_or hs n x) ≡ true = subst (λ (m : ℕ). is_before h (get_or hs m x) ≡ true) (sym end) (end_is_after h x hs (omega (arith, end, less))) in
    let before : is_before h x ≡ true = subst (λ (r : Reservation). is_before h r ≡ true) (sym is) at in
    moved_below op h x hs p some before (sym hold)
