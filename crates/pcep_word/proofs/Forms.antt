-- The one form of a word: its mantissa and its scale. A greater word stands for more.
use Rattle.std.proofs.Common.{◌≡◌, ◌≢◌, ℕ, Bool, ◌+◌, ◌*◌, ◌^◌, ◌<◌, ◌≤◌, ◌⊎◌, inl, inr, eqb, cond, true, false, refl, arith}
use Rattle.std.proofs.Math.Nat.{mul-lt-mul_of_pos_right, mul-le-mul}
use Rattle.std.proofs.lemmas.Nat.{pow-add, pow_pos}
use Rattle.std.proofs.lemmas.Bool.{cases_lt, eqb-true, eqb-false}
use Rattle.pcep_word.specs.Word.{magnitude, mantissa, scale, exponent, fraction}
use Rattle.pcep_word.proofs.Rounding.{pow_mono}

pub record Packed (w m e : ℕ) : Type 0 where
  pub fits : m < 16777216
  pub positive : 1 ≤ e
  pub normal : 1 < e → 8388608 ≤ m
  pub place : w + 8388608 ≡ e * 8388608 + m

parts_of : (w : ℕ) (b : Bool) → eqb (exponent w) 0 ≡ b → w < 2 ^ 31 → Packed w (cond b (fraction w) (2 ^ 23 + fraction w)) (cond b 1 (exponent w))
parts_of w true e lt =
    let z : exponent w ≡ 0 = eqb-true _ _ e in
    record { fits = omega arith; positive = omega arith; normal = omega arith; place = omega arith }
parts_of w false e lt =
    let nz : exponent w ≢ 0 = eqb-false _ _ e in
    record { fits = omega arith; positive = omega arith; normal = omega arith; place = omega arith }

pub Packed-parts : (w : ℕ) → w < 2 ^ 31 → Packed w (mantissa w) (scale w)
unfolding mantissa scale
Packed-parts w lt = parts_of w (eqb (exponent w) 0) refl lt

normal_or : (w m e : ℕ) → Packed w m e → (e ≡ 1) ⊎ (8388608 ≤ m)
normal_or w m e p = elim (cases_lt 1 e) [ inl lt ↦ inr (p.normal lt) | inr le ↦ inl (omega (arith, p.positive)) ]

-- how a greater word differs in its parts from a lesser one
pub Packed-below : (w x m n e f : ℕ) → Packed w m e → Packed x n f → w < x → ((e < f) × (8388608 ≤ n)) ⊎ ((e ≡ f) × (m < n))
Packed-below w x m n e f p q lt =
    elim (cases_lt e f) [
      | inl less ↦ inl (less, q.normal (omega (arith, p.positive)))
      | inr more ↦ inr (elim (normal_or w m e p) [
        | inl one ↦ (omega (arith, q.positive), omega (arith, p.place, q.place, q.positive))
        | inr large ↦ (omega (arith, p.place, q.place, q.fits, p.fits), omega (arith, p.place, q.place, q.fits, p.fits))
      ])
    ]

pub Packed-same : (w m n e f : ℕ) → Packed w m e → Packed w n f → m * 2 ^ e ≡ n * 2 ^ f
Packed-same w m n e f p q =
    elim (normal_or w m e p) [
      | inl one ↦ elim (normal_or w n f q) [
        | inl also ↦ let a : e ≡ f = omega arith in let b : m ≡ n = omega (arith, p.place, q.place) in rw (a, b) refl
        | inr large ↦ let a : e ≡ f = omega (arith, p.place, q.place, p.fits, q.fits, q.positive) in let b : m ≡ n = omega (arith, p.place, q.place) in rw (a, b) refl
      ]
      | inr large ↦ elim (normal_or w n f q) [
        | inl also ↦ let a : e ≡ f = omega (arith, p.place, q.place, p.fits, q.fits, p.positive) in let b : m ≡ n = omega (arith, p.place, q.place) in rw (a, b) refl
        | inr both ↦ let a : e ≡ f = omega (arith, p.place, q.place, p.fits, q.fits) in let b : m ≡ n = omega (arith, p.place, q.place) in rw (a, b) refl
      ]
    ]

pub magnitude_is : (w m e : ℕ) → w < 2 ^ 31 → Packed w m e → magnitude w ≡ m * 2 ^ e
unfolding magnitude
magnitude_is w m e lt p = Packed-same w (mantissa w) m (scale w) e (Packed-parts w lt) p

pub Packed-grows : (m n e f : ℕ) → m < 16777216 → 8388608 ≤ n → e < f → m * 2 ^ e < n * 2 ^ f
Packed-grows m n e f small large lt =
    let a : m * 2 ^ e < 16777216 * 2 ^ e = mul-lt-mul_of_pos_right small (pow_pos e) in
    let b : 8388608 * 2 ^ (1 + e) ≤ n * 2 ^ f = mul-le-mul large (pow_mono (1 + e) f (omega arith)) in
    let c : 2 ^ (1 + e) ≡ 2 * 2 ^ e = pow-add 2 1 e in
    omega (arith, a, b, c)

-- a greater word stands for more
pub magnitude_grows : (w x : ℕ) → w < x → x < 2 ^ 31 → magnitude w < magnitude x
unfolding magnitude
magnitude_grows w x lt small =
    let p = Packed-parts w (omega arith) in
    let q = Packed-parts x small in
    elim (Packed-below w x (mantissa w) (mantissa x) (scale w) (scale x) p q lt) [
      | inl more ↦ Packed-grows (mantissa w) (mantissa x) (scale w) (scale x) p.fits more.1 more.0
      | inr same ↦ rw same.0 (mul-lt-mul_of_pos_right same.1 (pow_pos (scale x)))
    ]

pub magnitude_mono : (w x : ℕ) → w ≤ x → x < 2 ^ 31 → magnitude w ≤ magnitude x
magnitude_mono w x le small =
    elim (cases_lt w x) [
      | inl lt ↦ omega (arith, magnitude_grows w x lt small)
      | inr ge ↦ let same : w ≡ x = omega arith in rw same (omega arith)
    ]
