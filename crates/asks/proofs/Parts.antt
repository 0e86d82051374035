-- Numbers with a unit fit in 128 bits, and a quotient that is rounded up is the least that covers its number.
use Rattle.std.proofs.Common.{ℕ, ◌+◌, ◌*◌, ◌/◌, ◌%◌, ◌^◌, ◌<◌, ◌≤◌, min, arith}
use Rattle.std.proofs.lemmas.Nat.{mul-lt}
use Rattle.std.proofs.lemmas.Grind.{div_ceil_times}
use Rattle.std.proofs.Math.Nat.{pow-le-pow_right}
use Rattle.pcep_word.proofs.Rounding.{up_least}
use Rattle.pcep_word.specs.Word.{IsLeast}

pub ten_small : (n : ℕ) → n ≤ 18 → 10 ^ n < 2 ^ 64
ten_small n h = let cap : 10 ^ n ≤ 10 ^ 18 = pow-le-pow_right {n = 10} (omega arith) {i = n} {j = 18} h in omega (arith, cap)

pub ten_positive : (n : ℕ) → 0 < 10 ^ n
ten_positive n = let cap : 10 ^ 0 ≤ 10 ^ n = pow-le-pow_right {n = 10} (omega arith) {i = 0} {j = n} (omega arith) in omega (arith, cap)

pub product_fits : (a b : ℕ) → a < 2 ^ 64 → b < 2 ^ 64 → a * b < 2 ^ 128
product_fits a b p q = let h : a * b < 2 ^ 64 * 2 ^ 64 = mul-lt a b (2 ^ 64) (2 ^ 64) p q in omega (arith, h)

-- so many bits in whole numbers, and so many in a fraction
pub bits_fit : (whole parts fraction bits : ℕ) → whole < 2 ^ 51 → parts < 2 ^ 64 → fraction < 2 ^ 64 → bits ≤ 8_000_000_000_000 → whole * parts + fraction * bits < 2 ^ 116
bits_fit whole parts fraction bits w p f b =
    let a : whole * parts < 2 ^ 51 * 2 ^ 64 = mul-lt whole parts (2 ^ 51) (2 ^ 64) w p in
    let c : fraction * bits < 2 ^ 64 * 2 ^ 43 = mul-lt fraction bits (2 ^ 64) (2 ^ 43) f (omega arith) in
    omega (arith, a, c)

-- a quotient that is rounded up is the least that covers its number
pub quotient_is_least : (a d : ℕ) → 0 < d → IsLeast (λ v. a ≤ v * d) (a / d + min 1 (a % d))
quotient_is_least a d p =
    let t = div_ceil_times a d p in
    record { holds = t.0; least = λ v h. up_least a d (a / d + min 1 (a % d)) v t.1 h }
