-- Rising numbers still rise after one more that is above all of them.
use Rattle.std.proofs.Common.{◌≡◌, ℕ, ◌+◌, ◌<◌, ◌≤◌, ◌==◌, List, [], ◌∷◌, ◌++◌, arith}
use mathlib.Core.Bool.{cond}
use Rattle.std.proofs.lemmas.Bool.Decides.{nat_tests}
use Rattle.std.proofs.lemmas.List.Sums.{sum_by-cons}
use Rattle.place_tokens.specs.Drawing.{times, RiseFrom}

rise_from : (floor : ℕ) (xs : List ℕ) (n : ℕ) → RiseFrom floor xs → floor ≤ n → ((p : ℕ) → 0 < times p xs → p < n) → RiseFrom floor (xs ++ n ∷ [])
rise_from floor [] n h le below = (le, tt)
rise_from floor (x ∷ xs) n h le below =
    let self : cond {A = ℕ} (x == x) 1 0 ≡ 1 = grind (arith, nat_tests) in
    let lt : x < n = below x (omega (arith, self, sum_by-cons (λ (y : ℕ). cond (y == x) 1 0) x xs)) in
    (h.0, rise_from (x + 1) xs n h.1 (omega (arith, lt)) (λ p some. below p (omega (arith, some, sum_by-cons (λ (y : ℕ). cond (y == p) 1 0) x xs))))

pub rise_snoc : (xs : List ℕ) (n : ℕ) → RiseFrom 0 xs → ((p : ℕ) → 0 < times p xs → p < n) → RiseFrom 0 (xs ++ n ∷ [])
rise_snoc xs n h below = rise_from 0 xs n h (omega arith) below
