-- Rounding to whole numbers: powers are moved from one side to the other.
use Rattle.std.proofs.Common.{◌≡◌, ℕ, min, ◌+◌, ◌-◌, ◌*◌, ◌/◌, ◌^◌, ◌<◌, ◌≤◌, ◌⊎◌, inl, inr, arith}
use Rattle.std.proofs.Math.Nat.{lt_of_mul-lt-mul_right, le_of_mul-le-mul_right, mul-le-mul_right, mul-le-mul, pow-le-pow_right}
use Rattle.std.proofs.lemmas.Nat.{pow-add, pow_pos, div-add-mod', mod_below}
use Rattle.std.proofs.lemmas.Bool.{cases_lt}
use Rattle.pcep_word.specs.Word.{IsLeast, IsGreatest, units}

-- v is n / p, rounded up
pub up_least : (n p v u : ℕ) → v * p < n + p → n ≤ u * p → v ≤ u
up_least n p v u tight covers =
    let lt : v * p < (u + 1) * p = omega arith in
    let below : v < u + 1 = lt_of_mul-lt-mul_right p lt in
    omega arith

pub le_scaled : (m u r s t : ℕ) → r + s ≡ t → m ≤ u * 2 ^ r → m * 2 ^ s ≤ u * 2 ^ t
le_scaled m u r s t e h =
    let k : m * 2 ^ s ≤ (u * 2 ^ r) * 2 ^ s = mul-le-mul_right (2 ^ s) h in
    rw (← e, pow-add 2 r s) (omega (arith, k))

pub le_unscaled : (m u r s t : ℕ) → r + s ≡ t → m * 2 ^ s ≤ u * 2 ^ t → m ≤ u * 2 ^ r
le_unscaled m u r s t e h =
    let g : m * 2 ^ s ≤ u * (2 ^ r * 2 ^ s) = rw (← e, pow-add 2 r s) at h in
    let k : m * 2 ^ s ≤ (u * 2 ^ r) * 2 ^ s = omega (arith, g) in
    le_of_mul-le-mul_right k (pow_pos s)

pub ge_scaled : (m u r s t : ℕ) → r + s ≡ t → u * 2 ^ r ≤ m → u * 2 ^ t ≤ m * 2 ^ s
ge_scaled m u r s t e h =
    let k : (u * 2 ^ r) * 2 ^ s ≤ m * 2 ^ s = mul-le-mul_right (2 ^ s) h in
    rw (← e, pow-add 2 r s) (omega (arith, k))

pub ge_unscaled : (m u r s t : ℕ) → r + s ≡ t → u * 2 ^ t ≤ m * 2 ^ s → u * 2 ^ r ≤ m
ge_unscaled m u r s t e h =
    let g : u * (2 ^ r * 2 ^ s) ≤ m * 2 ^ s = rw (← e, pow-add 2 r s) at h in
    let k : (u * 2 ^ r) * 2 ^ s ≤ m * 2 ^ s = omega (arith, g) in
    le_of_mul-le-mul_right k (pow_pos s)

pub same_scaled : (m l s t : ℕ) → s ≡ l + t → m * 2 ^ s ≡ (m * 2 ^ l) * 2 ^ t
same_scaled m l s t e = rw (e, pow-add 2 l t) (omega arith)

pub pow_mono : (i j : ℕ) → i ≤ j → 2 ^ i ≤ 2 ^ j
pow_mono i j h = pow-le-pow_right (omega arith) h

-- v is m / 2 ^ r rounded up; for an m of 24 bits, an r above 24 counts as 24
pub up_is : (m r k v s : ℕ) → m < 2 ^ 24 → (k ≡ r) ⊎ ((k ≡ 24) × (24 ≤ r)) → r + s ≡ 150 → m ≤ v * 2 ^ k → v * 2 ^ k < m + 2 ^ k → IsLeast (λ u. m * 2 ^ s ≤ units u) v
unfolding units
up_is m r k v s small (inl same) e covers tight =
    record {
      holds = le_scaled m v r s 150 e (rw same at covers);
      least = λ u h. up_least m (2 ^ k) v u tight (rw same (le_unscaled m u r s 150 e h));
    }
up_is m r k v s small (inr far) e covers tight =
    let c : m ≤ v * 2 ^ 24 = rw far.0 at covers in
    let t : v * 2 ^ 24 < m + 2 ^ 24 = rw far.0 at tight in
    let more : v * 2 ^ 24 ≤ v * 2 ^ r = mul-le-mul (omega arith) (pow_mono 24 r far.1) in
    record {
      holds = le_scaled m v r s 150 e (omega (arith, more));
      least = λ u h.
          let g : m ≤ u * 2 ^ r = le_unscaled m u r s 150 e h in
          elim (cases_lt 0 u) [
            | inl pos ↦ omega arith
            | inr none ↦ let z : u ≡ 0 = omega arith in let g0 : m ≤ 0 * 2 ^ r = rw z at g in omega (arith, g0)
          ];
    }

pub down_is : (m r k v s : ℕ) → m < 2 ^ 24 → (k ≡ r) ⊎ ((k ≡ 24) × (24 ≤ r)) → r + s ≡ 150 → v * 2 ^ k ≤ m → m < v * 2 ^ k + 2 ^ k → IsGreatest (λ u. (u ≤ 2 ^ 48 - 1) × (units u ≤ m * 2 ^ s)) v
unfolding units
down_is m r k v s small (inl same) e covers tight =
    let one : v * 1 ≤ v * 2 ^ k = mul-le-mul (omega arith) (pow_pos k) in
    record {
      holds = (omega (arith, one), ge_scaled m v r s 150 e (rw same at covers));
      greatest = λ u h.
          let g : u * 2 ^ r ≤ m = ge_unscaled m u r s 150 e h.1 in
          let lt : u * 2 ^ k < (v + 1) * 2 ^ k = rw same (let t2 = rw same at tight in omega (arith, g, t2)) in
          let below : u < v + 1 = lt_of_mul-lt-mul_right (2 ^ k) lt in omega arith;
    }
down_is m r k v s small (inr far) e covers tight =
    let c : v * 2 ^ 24 ≤ m = rw far.0 at covers in
    let z : v ≡ 0 = omega arith in
    record {
      holds = (omega arith, rw z (omega arith));
      greatest = λ u h.
          let g : u * 2 ^ r ≤ m = ge_unscaled m u r s 150 e h.1 in
          let more : u * 2 ^ 24 ≤ u * 2 ^ r = mul-le-mul (omega arith) (pow_mono 24 r far.1) in
          omega arith;
    }

pub nearer : (r k : ℕ) → k ≡ min r 24 → (k ≡ r) ⊎ ((k ≡ 24) × (24 ≤ r))
nearer r k e = elim (cases_lt r 24) [ inl lt ↦ inl (omega arith) | inr ge ↦ inr (omega arith, ge) ]

pub down_of : (m r k s : ℕ) → m < 2 ^ 24 → (k ≡ r) ⊎ ((k ≡ 24) × (24 ≤ r)) → r + s ≡ 150 → IsGreatest (λ u. (u ≤ 2 ^ 48 - 1) × (units u ≤ m * 2 ^ s)) (m / 2 ^ k)
down_of m r k s small near e =
    let d = div-add-mod' m (2 ^ k) in
    let l = mod_below m (2 ^ k) (pow_pos k) in
    down_is m r k (m / 2 ^ k) s small near e (omega (arith, d)) (omega (arith, d, l))

-- a scale of 150 or more moves the mantissa up
pub shift_is : (m l s : ℕ) → s ≡ l + 150 → m * 2 ^ s ≡ units (m * 2 ^ l)
unfolding units
shift_is m l s e = same_scaled m l s 150 e

pub units_le : (u v : ℕ) → units u ≤ units v → u ≤ v
unfolding units
units_le u v h = le_of_mul-le-mul_right h (pow_pos 150)

pub units_mono : (u v : ℕ) → u ≤ v → units u ≤ units v
unfolding units
units_mono u v h = mul-le-mul_right (2 ^ 150) h

pub shift_small : (m l : ℕ) → m < 2 ^ 24 → l ≤ 24 → m * 2 ^ l < 2 ^ 48
shift_small m l small le =
    let a : m * 2 ^ l ≤ m * 2 ^ 24 = mul-le-mul (omega arith) (pow_mono l 24 le) in
    omega (arith, a)

pub shift_large : (m l : ℕ) → 2 ^ 23 ≤ m → 25 ≤ l → 2 ^ 48 ≤ m * 2 ^ l
shift_large m l large le =
    let a : m * 2 ^ 25 ≤ m * 2 ^ l = mul-le-mul (omega arith) (pow_mono 25 l le) in
    omega (arith, a)
