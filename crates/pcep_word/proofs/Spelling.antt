-- The word of a number is the least whose value is not below it, and each bandwidth has a word of exactly its value.
use Rattle.std.proofs.Common.{◌≡◌, ◌≢◌, ℕ, add-one, ◌+◌, ◌-◌, ◌*◌, ◌^◌, ◌<◌, ◌≤◌, inl, inr, refl, sym, ap, ◌∙◌, arith}
use Rattle.std.proofs.Math.Nat.{lt_of_mul-lt-mul_right, le_of_mul-le-mul_right, mul-le-mul_right, mul-lt-mul_of_pos_right, mul-le-mul}
use Rattle.std.proofs.lemmas.Nat.{pow-add, pow_pos, leading_top}
use Rattle.std.proofs.lemmas.Bool.{cases_lt, ne_eqb}
use Rattle.std.proofs.lemmas.Grind.{div_ceil_times}
use Rattle.pcep_word.specs.Word.{IsLeast, IsWordOf, IsBandwidth, ReadsBandwidth, magnitude, divided_up, highest_bit, word_of, mantissa, scale, units}
use Rattle.pcep_word.proofs.Rounding.{same_scaled, pow_mono, shift_is, units_le}
use Rattle.pcep_word.proofs.Forms.{Packed, Packed-parts, magnitude_is, Packed-grows, magnitude_mono}

pub record IsNormal (v t m : ℕ) : Type 0 where
  pub normal : 8388608 ≤ m
  pub fits : m ≤ 16777216
  pub covers : units v ≤ m * 2 ^ (t + 127)
  pub tight : m * 2 ^ (t + 127) < units v + 2 ^ (t + 127)

pub normal_low : (v t : ℕ) → t ≤ 23 → 2 ^ t ≤ v → v < 2 ^ (t + 1) → IsNormal v t (v * 2 ^ (23 - t)) × (units v ≡ v * 2 ^ (23 - t) * 2 ^ (t + 127))
unfolding units
normal_low v t le low high =
    let a : 2 ^ t * 2 ^ (23 - t) ≤ v * 2 ^ (23 - t) = mul-le-mul_right (2 ^ (23 - t)) low in
    let b : v * 2 ^ (23 - t) < 2 ^ (t + 1) * 2 ^ (23 - t) = mul-lt-mul_of_pos_right high (pow_pos (23 - t)) in
    let c : 2 ^ t * 2 ^ (23 - t) ≡ 8388608 = sym (pow-add 2 t (23 - t)) ∙ ap (λ (k : ℕ). 2 ^ k) (let k : t + (23 - t) ≡ 23 = omega arith in k) in
    let d : 2 ^ (t + 1) * 2 ^ (23 - t) ≡ 16777216 = sym (pow-add 2 (t + 1) (23 - t)) ∙ ap (λ (k : ℕ). 2 ^ k) (let k : t + 1 + (23 - t) ≡ 24 = omega arith in k) in
    let e : v * 2 ^ 150 ≡ v * 2 ^ (23 - t) * 2 ^ (t + 127) = same_scaled v (23 - t) 150 (t + 127) (omega arith) in
    (record { normal = omega (arith, a, c); fits = omega (arith, b, d); covers = omega (arith, e); tight = omega (arith, e, pow_pos (t + 127)) }, e)

pub normal_high : (v t m : ℕ) → 23 < t → 2 ^ t ≤ v → v < 2 ^ (t + 1) → v ≤ m * 2 ^ (t - 23) → m * 2 ^ (t - 23) < v + 2 ^ (t - 23) → IsNormal v t m
unfolding units
normal_high v t m lt low high covers tight =
    let k = 2 ^ (t - 23) in
    let a : 2 ^ t ≡ 2 ^ 23 * 2 ^ (t - 23) = ap (λ (i : ℕ). 2 ^ i) (let i : t ≡ 23 + (t - 23) = omega arith in i) ∙ pow-add 2 23 (t - 23) in
    let b : 2 ^ (t + 1) ≡ 2 ^ 24 * 2 ^ (t - 23) = ap (λ (i : ℕ). 2 ^ i) (let i : t + 1 ≡ 24 + (t - 23) = omega arith in i) ∙ pow-add 2 24 (t - 23) in
    let c : 8388608 * 2 ^ (t - 23) ≤ m * 2 ^ (t - 23) = omega (arith, a) in
    let d : m * 2 ^ (t - 23) < 16777217 * 2 ^ (t - 23) = omega (arith, b) in
    let f : m < 16777217 = lt_of_mul-lt-mul_right (2 ^ (t - 23)) d in
    let g : m * 2 ^ (t - 23) * 2 ^ 150 < (v + 2 ^ (t - 23)) * 2 ^ 150 = mul-lt-mul_of_pos_right tight (pow_pos 150) in
    let h : m * 2 ^ (t + 127) ≡ m * 2 ^ (t - 23) * 2 ^ 150 = same_scaled m (t - 23) (t + 127) 150 (omega arith) in
    let i : 1 * 2 ^ (t + 127) ≡ 1 * 2 ^ (t - 23) * 2 ^ 150 = same_scaled 1 (t - 23) (t + 127) 150 (omega arith) in
    let j : v * 2 ^ 150 ≤ m * 2 ^ (t - 23) * 2 ^ 150 = mul-le-mul_right (2 ^ 150) covers in
    record { normal = le_of_mul-le-mul_right c (pow_pos (t - 23)); fits = omega (arith, f); covers = rw h j; tight = omega (arith, g, h, i) }

pub normal_magnitude : (t m : ℕ) → t < 48 → 8388608 ≤ m → m ≤ 16777216 → magnitude ((t + 126) * 8388608 + m) ≡ m * 2 ^ (t + 127)
normal_magnitude t m small normal fits =
    elim (cases_lt m 16777216) [
      | inl lt ↦ magnitude_is ((t + 126) * 8388608 + m) m (t + 127) (omega arith) (record { fits = lt; positive = omega arith; normal = λ _. normal; place = omega arith })
      | inr ge ↦
          let p : Packed ((t + 126) * 8388608 + m) 8388608 (1 + (t + 127)) = record { fits = omega arith; positive = omega arith; normal = λ _. omega arith; place = omega arith } in
          let a = magnitude_is ((t + 126) * 8388608 + m) 8388608 (1 + (t + 127)) (omega arith) p in
          let b : 2 ^ (1 + (t + 127)) ≡ 2 * 2 ^ (t + 127) = pow-add 2 1 (t + 127) in
          let c : m ≡ 16777216 = omega arith in
          a ∙ (rw (b, c) (omega arith))
    ]

top_units : (v t : ℕ) → 2 ^ t ≤ v → 8388608 * 2 ^ (t + 127) ≤ units v
unfolding units
top_units v t low =
    let a : 2 ^ t * 2 ^ 150 ≤ v * 2 ^ 150 = mul-le-mul_right (2 ^ 150) low in
    let b : 2 ^ 23 * 2 ^ (t + 127) ≡ 2 ^ t * 2 ^ 150 = sym (pow-add 2 23 (t + 127)) ∙ ap (λ (i : ℕ). 2 ^ i) (let i : 23 + (t + 127) ≡ t + 150 = omega arith in i) ∙ pow-add 2 t 150 in
    omega (arith, a, b)

-- a lesser word stands for less
word_below : (v t m x : ℕ) → t < 48 → 8388608 * 2 ^ (t + 127) ≤ units v → IsNormal v t m → x < (t + 126) * 8388608 + m → units v ≤ magnitude x → ⊥
unfolding magnitude
word_below v t m x small top n lt h =
    let p = Packed-parts x (omega (arith, n.fits)) in
    elim (cases_lt (scale x) (t + 127)) [
      | inl less ↦ let a = Packed-grows (mantissa x) 8388608 (scale x) (t + 127) p.fits (omega arith) less in omega (arith, a)
      | inr more ↦ elim (cases_lt (t + 127) (scale x)) [
        | inl great ↦ omega (arith, p.place, p.normal (omega arith), n.fits)
        | inr le ↦
            let same : scale x ≡ t + 127 = omega arith in
            let fewer : mantissa x + 1 ≤ m = omega (arith, p.place) in
            let a : (mantissa x + 1) * 2 ^ (t + 127) ≤ m * 2 ^ (t + 127) = mul-le-mul_right (2 ^ (t + 127)) fewer in
            let b : units v ≤ mantissa x * 2 ^ (t + 127) = rw same at h in
            omega (arith, a, b, n.tight)
      ]
    ]

pub word_is : (v t m : ℕ) → t < 48 → 2 ^ t ≤ v → IsNormal v t m → IsWordOf v ((t + 126) * 8388608 + m)
word_is v t m small low n =
    let here = normal_magnitude t m small n.normal n.fits in
    let top : 8388608 * 2 ^ (t + 127) ≤ units v = top_units v t low in
    record {
      holds = (omega (arith, n.fits), rw here n.covers);
      least = λ x h. elim (cases_lt x ((t + 126) * 8388608 + m)) [
        | inl lt ↦ absurd (word_below v t m x small top n lt h.1)
        | inr ge ↦ ge
      ];
    }

pub word_zero : (v : ℕ) → v ≡ 0 → IsWordOf v 0
unfolding units
word_zero v z = record { holds = (omega arith, rw z (omega arith)); least = λ u h. omega arith }

pub top_below : (v t : ℕ) → 2 ^ t ≤ v → v < 2 ^ 48 → t < 48
top_below v t low high =
    elim (cases_lt t 48) [ inl lt ↦ lt | inr ge ↦ let a = pow_mono 48 t ge in omega (arith, a) ]

-- ---- each bandwidth has an exact word

pub record IsExactly (v x : ℕ) : Type 0 where
  pub word : x ≤ 0x7f7fffff
  pub same : magnitude x ≡ units v

exact_zero : IsExactly 0 0
unfolding units magnitude mantissa scale
exact_zero = record { word = omega arith; same = refl }

units_top : 16777216 * 2 ^ (23 + 127) ≡ units 16777216
unfolding units
units_top = refl

pub exact_small : (v : ℕ) → v ≤ 16777216 → (x : ℕ) × IsExactly v x
exact_small v le =
    elim (cases_lt 0 v) [
      | inr none ↦ let z : v ≡ 0 = omega arith in (0, rw z exact_zero)
      | inl pos ↦
          let l = leading_top 64 v pos (omega arith) in
          let j = l.0 in
          let high : v < 2 ^ (j + 1) = rw add-one l.3 in
          elim (cases_lt 23 j) [
            | inr low ↦
                let n = normal_low v j low l.2 high in
                ((j + 126) * 8388608 + v * 2 ^ (23 - j), record { word = omega (arith, n.0.fits); same = normal_magnitude j (v * 2 ^ (23 - j)) (omega arith) n.0.normal n.0.fits ∙ sym n.1 })
            | inl far ↦
                let a : 16777216 ≤ v = omega (arith, pow_mono 24 j (omega arith), l.2) in
                let z : v ≡ 16777216 = omega arith in
                ((23 + 126) * 8388608 + 16777216, record { word = omega arith; same = normal_magnitude 23 16777216 (omega arith) (omega arith) (omega arith) ∙ rw z units_top })
          ]
    ]

pub units_more : (m s : ℕ) → s ≤ 150 → m * 2 ^ s ≤ units m
unfolding units
units_more m s le = mul-le-mul (omega arith) (pow_mono s 150 le)

exact_word : (w v : ℕ) → w < 2 ^ 31 → ReadsBandwidth w v → (x : ℕ) × IsExactly v x
unfolding magnitude
exact_word w v lt r =
    let p = Packed-parts w lt in
    elim (cases_lt (scale w) 150) [
      | inl low ↦ exact_small v (omega (arith, p.fits, r.least.least (mantissa w) (units_more (mantissa w) (scale w) (omega arith))))
      | inr high ↦
          let e = shift_is (mantissa w) (scale w - 150) (scale w) (omega arith) in
          let a : v ≤ mantissa w * 2 ^ (scale w - 150) = r.least.least _ (omega (arith, e)) in
          let b : mantissa w * 2 ^ (scale w - 150) ≤ v = units_le _ v (omega (arith, e, r.least.holds)) in
          let c : mantissa w * 2 ^ (scale w - 150) ≡ v = omega (arith, a, b) in
          (w, record { word = omega (arith, r.number.finite); same = e ∙ ap units c })
    ]

pub zero_magnitude : magnitude 2147483648 ≡ 0
unfolding magnitude mantissa scale
zero_magnitude = refl

zero_least : IsLeast (λ u. magnitude 0 ≤ units u) 0
unfolding magnitude mantissa scale units
zero_least = record { holds = omega arith; least = λ u h. omega arith }

pub zero_is : IsBandwidth 0
zero_is = record { word = 0; reads = record { number = record { finite = omega arith; sign = inl (omega arith) }; least = zero_least; small = omega arith } }

pub exact : (v : ℕ) → IsBandwidth v → (x : ℕ) × IsExactly v x
exact v b =
    elim b.reads.number.sign [
      | inl lt ↦ exact_word b.word v lt b.reads
      | inr minus ↦
          let z : magnitude b.word ≡ 0 = ap magnitude minus ∙ zero_magnitude in
          let a : v ≤ 0 = b.reads.least.least 0 (omega (arith, z)) in
          exact_small v (omega (arith, a))
    ]

pub word_exact : (v w : ℕ) → IsBandwidth v → IsWordOf v w → magnitude w ≡ units v
word_exact v w b word =
    let x = exact v b in
    let le = word.least x.0 (x.1.word, omega (arith, x.1.same)) in
    let a = magnitude_mono w x.0 le (omega (arith, x.1.word)) in
    omega (arith, a, x.1.same, word.holds.1)

-- ---- the word of a number, computed

IsNormal-any : (v t m : ℕ) → 2 ^ t ≤ v → v < 2 ^ (t + 1) → v * 8388608 ≤ m * 2 ^ t → m * 2 ^ t < v * 8388608 + 2 ^ t → IsNormal v t m
unfolding units
IsNormal-any v t m low high covers tight =
    let p : 2 ^ (t + 1) ≡ 2 ^ t * 2 = pow-add 2 t 1 in
    let q : 2 ^ (t + 127) ≡ 2 ^ t * 2 ^ 127 = pow-add 2 t 127 in
    let a : 8388608 * 2 ^ t ≤ m * 2 ^ t = omega arith in
    let b : m * 2 ^ t < 16777217 * 2 ^ t = omega arith in
    let c : m < 16777217 = lt_of_mul-lt-mul_right (2 ^ t) b in
    let d : v * 8388608 * 2 ^ 127 ≤ m * 2 ^ t * 2 ^ 127 = mul-le-mul_right (2 ^ 127) covers in
    let e : m * 2 ^ t * 2 ^ 127 < (v * 8388608 + 2 ^ t) * 2 ^ 127 = mul-lt-mul_of_pos_right tight (pow_pos 127) in
    record { normal = le_of_mul-le-mul_right a (pow_pos t); fits = omega arith; covers = rw q (omega (arith, d)); tight = rw q (omega (arith, e)) }

at_top : (v t : ℕ) → 2 ^ t ≤ v → v < 2 ^ (t + 1) → t < 48 → IsWordOf v ((t + 126) * 8388608 + divided_up (v * 8388608) (2 ^ t))
at_top v t low high small =
    let d = div_ceil_times (v * 8388608) (2 ^ t) (pow_pos t) in
    word_is v t (divided_up (v * 8388608) (2 ^ t)) small low (IsNormal-any v t _ low high d.0 d.1)

at_bit : (v t u : ℕ) → u ≡ t → IsWordOf v ((t + 126) * 8388608 + divided_up (v * 8388608) (2 ^ t)) → IsWordOf v ((u + 126) * 8388608 + divided_up (v * 8388608) (2 ^ u))
at_bit v t u same h = rw same h

pub word_of_is : (v : ℕ) → v < 2 ^ 48 → IsWordOf v (word_of v)
unfolding word_of
word_of_is v small =
    elim (cases_lt 0 v) [
      | inr none ↦ let z : v ≡ 0 = omega arith in rw z (word_zero 0 refl)
      | inl pos ↦
          let l = leading_top 64 v pos (omega arith) in
          let high : v < 2 ^ (l.0 + 1) = rw add-one l.3 in
          let bit : highest_bit v ≡ l.0 = omega (arith, l.1) in
          let nz : v ≢ 0 = omega arith in
          rw (ne_eqb v 0 nz) (at_bit v l.0 (highest_bit v) bit (at_top v l.0 l.2 high (top_below v l.0 l.2 small)))
    ]

pub word_computes : (v w : ℕ) → v < 2 ^ 48 → IsWordOf v w → w ≡ word_of v
word_computes v w small word =
    let o = word_of_is v small in
    omega (arith, word.least (word_of v) o.holds, o.least w word.holds)
