-- Tests: numbers that are equal, and the first index at which a test passes.
use Rattle.std.proofs.Common.{◌≡◌, ℕ, ◌<◌, ◌==◌, nat_lt, Bool, true, false, cond, List, length, Option, Some, None, IfSome, refl, arith, position}
use Rattle.std.specs.List.{position_or_len}
use Rattle.std.specs.Option.{option_or}
use Rattle.std.proofs.lemmas.Bool.Decides.{nat_tests}
use Rattle.std.proofs.lemmas.Grind.{common_steps}

pub same_number : (a b : ℕ) → (a == b) ≡ true → a ≡ b
same_number a b = grind (arith, nat_tests, common_steps)

pub equal_numbers : (a b : ℕ) → a ≡ b → (a == b) ≡ true
equal_numbers a b = grind (arith, nat_tests, common_steps)

tested : (n m : ℕ) (b : Bool) → nat_lt n m ≡ b → IfSome (cond b (Some n) None) (λ i. i < m)
tested n m true is = grind (arith, nat_tests, common_steps)
tested n m false is = tt

pub position_within : {A : Type 0} (p : A → Bool) (xs : List A) → IfSome (position p xs) (λ i. i < length xs)
position_within p xs = tested (position_or_len p xs) (length xs) (nat_lt (position_or_len p xs) (length xs)) refl

-- the first of two that is there
pub either : {A : Type 0} (o p : Option A) (P : A → Type 0) → IfSome o P → IfSome p P → IfSome (option_or o p) P
either None p P first second = second
either (Some x) p P first second = first
