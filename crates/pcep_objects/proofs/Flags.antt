-- Flags that are added up to a number are found in it again.
use Rattle.std.proofs.Common.{◌≡◌, ℕ, ◌*◌, ◌/◌, ◌%◌, ◌^◌, ◌<◌, ◌≤◌, Bool, true, false, cond, refl, arith}
use Rattle.std.proofs.lemmas.Nat.{pow_pos}
use Rattle.std.proofs.lemmas.Nat.Bits.{and_pow}
use Rattle.std.proofs.lemmas.Bool.{ne_eqb}
use Rattle.pcep_objects.specs.Steps.{has}

abbrev pub bit : Bool → ℕ
bit b = cond b 1 0

pub bit_small : (b : Bool) → bit b ≤ 1
bit_small true = omega arith
bit_small false = omega arith

pub weight : (b : Bool) (n : ℕ) → cond b n 0 ≡ n * bit b
weight true n = omega arith
weight false n = omega arith

-- a flag is set exactly if its bit is 1
pub has_bit : (b : Bool) (k n : ℕ) → n / 2 ^ k % 2 ≡ bit b → has n (2 ^ k) ≡ b
has_bit true k n e =
    let pos : 0 < 2 ^ k = pow_pos k in
    let one : 1 * 2 ^ k ≡ 2 ^ k = omega arith in
    rw (and_pow n k, e, one, ne_eqb (2 ^ k) 0 (λ z. omega arith)) refl
has_bit false k n e =
    let none : 0 * 2 ^ k ≡ 0 = omega arith in
    rw (and_pow n k, e, none) refl
