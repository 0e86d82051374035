-- The first of neighbouring numbers that passes a test.
use Rattle.std.proofs.Common.{◌≡◌, ℕ, zero, suc, ◌+◌, ◌<◌, ◌≤◌, Bool, true, false, Some, None, refl, ap, ◌∙◌, arith, inl, inr}
use Rattle.std.specs.List.{find, range_with_len}
use Rattle.std.proofs.lemmas.Bool.{cases_eq, cond-false, cond-true}

pub first_of : (f : ℕ → Bool) (a n p : ℕ) → a ≤ p → p < a + n → ((q : ℕ) → a ≤ q → q < p → f q ≡ false) → f p ≡ true → find f (range_with_len a n) ≡ Some p
first_of f a zero p low high before passes = absurd (omega arith)
first_of f a (suc n) p low high before passes =
    elim (cases_eq a p) [
      | inl same ↦ cond-true (f a) (Some a) (find f (range_with_len (a + 1) n)) (ap f same ∙ passes) ∙ ap Some same
      | inr other ↦
          cond-false (f a) (Some a) (find f (range_with_len (a + 1) n)) (before a (omega arith) (omega arith))
          ∙ first_of f (a + 1) n p (omega arith) (omega arith) (λ q from to. before q (omega arith) to) passes
    ]

pub none_of : (f : ℕ → Bool) (a n : ℕ) → ((q : ℕ) → a ≤ q → q < a + n → f q ≡ false) → find f (range_with_len a n) ≡ None
none_of f a zero fails = refl
none_of f a (suc n) fails =
    cond-false (f a) (Some a) (find f (range_with_len (a + 1) n)) (fails a (omega arith) (omega arith))
    ∙ none_of f (a + 1) n (λ q from to. fails q (omega arith) (omega arith))
