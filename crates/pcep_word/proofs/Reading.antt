-- What is read from a word: a bandwidth rounded up, a bound rounded down. The computed definitions agree, and a value
-- is read again from the word that it is written as.
use Rattle.std.proofs.Common.{◌≡◌, ℕ, min, Bool, Option, Some, None, IfSome, IfNone, ◌+◌, ◌-◌, ◌*◌, ◌/◌, ◌%◌, ◌^◌, ◌<◌, ◌≤◌, ◌⊎◌, inl, inr, eqb, leb, ltb, not, ◌&&◌, cond, true, false, refl, sym, ap, ◌∙◌, arith}
use Rattle.std.proofs.Math.Nat.{lt_of_mul-lt-mul_right, le_of_mul-le-mul_right, mul-le-mul_right}
use Rattle.std.proofs.lemmas.Nat.{pow_pos, div-add-mod', mod_below}
use Rattle.std.proofs.lemmas.Bool.{cases_lt, eqb-false, ne_eqb, le-leb, lt-ltb, leb-true, ltb-true, not-true, and_parts, cond-false, false_from_ne_true}
use Rattle.std.proofs.lemmas.Grind.{div_ceil_times}
use Rattle.pcep_word.specs.Word.{IsNumber, IsLeast, IsGreatest, IsWordOf, IsBandwidth, IsBound, ReadsBandwidth, ReadsBound, magnitude, is_number, rounded_up, bandwidth_of, bound_of, word_of, mantissa, scale, exponent, units}
use Rattle.pcep_word.proofs.Rounding.{up_least, shift_is, units_le, units_mono}
use Rattle.pcep_word.proofs.Forms.{Packed-parts, magnitude_mono}
use Rattle.pcep_word.proofs.Spelling.{IsExactly, exact_small, units_more, zero_magnitude, exact, word_exact, word_of_is}

pub least_exists : (n p : ℕ) → 0 < p → (v : ℕ) × IsLeast (λ u. n ≤ u * p) v
least_exists n p pos =
    let d = div_ceil_times n p pos in
    (n / p + min 1 (n % p), record { holds = d.0; least = λ u h. up_least n p _ u d.1 h })

pub reads_is : (w m s v : ℕ) → IsNumber w → m ≡ mantissa w → s ≡ scale w → IsLeast (λ u. m * 2 ^ s ≤ units u) v → v < 2 ^ 48 → ReadsBandwidth w v
unfolding magnitude
reads_is w m s v number em es least small = record { number = number; least = rw (em, es) at least; small = small }

pub bound_is : (w m s v : ℕ) → IsNumber w → m ≡ mantissa w → s ≡ scale w → IsGreatest (λ u. (u ≤ 2 ^ 48 - 1) × (units u ≤ m * 2 ^ s)) v → ReadsBound w v
unfolding magnitude
bound_is w m s v number em es greatest = record { number = number; greatest = rw (em, es) at greatest }

pub not_reads : (w m s v : ℕ) → m ≡ mantissa w → s ≡ scale w → ((u : ℕ) → u < 2 ^ 48 → m * 2 ^ s ≤ units u → ⊥) → ReadsBandwidth w v → ⊥
unfolding magnitude
not_reads w m s v em es none r = none v r.small (rw (em, es) r.least.holds)

pub at_least_found : (n w : ℕ) (o : Option ℕ) → IsWordOf n w → IfSome o (λ b. ReadsBandwidth w b) → IfSome o (λ b. IsLeast (λ v. (n ≤ v) × IsBandwidth v) b)
at_least_found n w None word r = tt
at_least_found n w (Some b) word r =
    record {
      holds = (units_le n b (omega (arith, word.holds.1, r.least.holds)), record { word = w; reads = r });
      least = λ u h.
          let x = exact u h.1 in
          let up = units_mono n u h.0 in
          let le = word.least x.0 (x.1.word, omega (arith, x.1.same, up)) in
          let a = magnitude_mono w x.0 le (omega (arith, x.1.word)) in
          r.least.least u (omega (arith, a, x.1.same));
    }

least_units : (n : ℕ) → (v : ℕ) × IsLeast (λ u. n ≤ units u) v
unfolding units
least_units n = least_exists n (2 ^ 150) (pow_pos 150)

pub at_least_none : (n w : ℕ) (o : Option ℕ) → IsWordOf n w → IfNone o ((v : ℕ) → ReadsBandwidth w v → ⊥) → IfNone o ((v : ℕ) → n ≤ v → IsBandwidth v → ⊥)
at_least_none n w (Some b) word r = tt
at_least_none n w None word r = λ v le known.
    let x = exact v known in
    let up = units_mono n v le in
    let below = word.least x.0 (x.1.word, omega (arith, x.1.same, up)) in
    let a = magnitude_mono w x.0 below (omega (arith, x.1.word)) in
    let c = least_units (magnitude w) in
    let d = c.1.least v (omega (arith, a, x.1.same)) in
    r c.0 (record { number = record { finite = omega (arith, word.holds.0); sign = inl (omega (arith, word.holds.0)) }; least = c.1; small = omega (arith, d, known.reads.small) })

-- ---- computed

passes : (w : ℕ) → IsNumber w → is_number w ≡ true
passes w number =
    let a : not (eqb (exponent w) 255) ≡ true = ap not (ne_eqb (exponent w) 255 number.finite) in
    let le : w ≤ 2 ^ 31 = elim number.sign [ inl lt ↦ omega arith | inr e ↦ omega arith ] in
    let b : leb w (2 ^ 31) ≡ true = le-leb w (2 ^ 31) le in
    rw (a, b) refl

is_passed : (w : ℕ) → is_number w ≡ true → IsNumber w
is_passed w e =
    let q = and_parts (not (eqb (exponent w) 255)) (leb w (2 ^ 31)) e in
    let sign : (w < 2 ^ 31) ⊎ (w ≡ 2 ^ 31) = elim (cases_lt w (2 ^ 31)) [ inl lt ↦ inl lt | inr ge ↦ inr (omega (arith, leb-true w (2 ^ 31) q.1)) ] in
    record { finite = eqb-false (exponent w) 255 (not-true _ q.0); sign = sign }

rounds : (n : ℕ) → IsLeast (λ u. n ≤ units u) (rounded_up n)
unfolding units rounded_up least_exists
rounds n = (least_exists n (2 ^ 150) (pow_pos 150)).1

reads_computes : (w v : ℕ) → ReadsBandwidth w v → bandwidth_of w ≡ Some v
unfolding bandwidth_of
reads_computes w v r =
    let l = rounds (magnitude w) in
    let same : rounded_up (magnitude w) ≡ v = omega (arith, l.least v r.least.holds, r.least.least (rounded_up (magnitude w)) l.holds) in
    let c : ltb (rounded_up (magnitude w)) (2 ^ 48) ≡ true = lt-ltb _ _ (omega (arith, same, r.small)) in
    rw (passes w r.number, c) (ap Some same)

none_computes : (w : ℕ) → ((v : ℕ) → ReadsBandwidth w v → ⊥) → bandwidth_of w ≡ None
unfolding bandwidth_of
none_computes w none =
    let t = is_number w && ltb (rounded_up (magnitude w)) (2 ^ 48) in
    cond-false t (Some (rounded_up (magnitude w))) None (false_from_ne_true t (λ e.
    let p = and_parts (is_number w) (ltb (rounded_up (magnitude w)) (2 ^ 48)) e in
    none (rounded_up (magnitude w)) (record { number = is_passed w p.0; least = rounds (magnitude w); small = ltb-true _ _ p.1 })))

pub computes : (w : ℕ) (o : Option ℕ) → IfSome o (λ b. ReadsBandwidth w b) → IfNone o ((v : ℕ) → ReadsBandwidth w v → ⊥) → o ≡ bandwidth_of w
computes w None found none = sym (none_computes w none)
computes w (Some v) found none = sym (reads_computes w v found)

-- ---- bounds, computed

bound_least : (n v : ℕ) → IsGreatest (λ u. (u ≤ 2 ^ 48 - 1) × (units u ≤ n)) v → v ≡ min (n / 2 ^ 150) (2 ^ 48 - 1)
unfolding units
bound_least n v greatest =
    let b = min (n / 2 ^ 150) (2 ^ 48 - 1) in
    let d = div-add-mod' n (2 ^ 150) in
    let r = mod_below n (2 ^ 150) (pow_pos 150) in
    let down : b ≤ n / 2 ^ 150 = omega arith in
    let le : b * 2 ^ 150 ≤ n / 2 ^ 150 * 2 ^ 150 = mul-le-mul_right (2 ^ 150) down in
    let above : b ≤ v = greatest.greatest b (omega arith, omega (arith, le, d)) in
    let lt : v * 2 ^ 150 < (n / 2 ^ 150 + 1) * 2 ^ 150 = omega (arith, greatest.holds.1, d, r) in
    let below : v < n / 2 ^ 150 + 1 = lt_of_mul-lt-mul_right (2 ^ 150) lt in
    omega (arith, greatest.holds.0)

pub bound_computes : (w : ℕ) (o : Option ℕ) → IfSome o (λ v. ReadsBound w v) → IfNone o (IsNumber w → ⊥) → o ≡ bound_of w
unfolding bound_of
bound_computes w (Some v) found none = rw (passes w found.number) (ap Some (bound_least (magnitude w) v found.greatest))
bound_computes w None found none = sym (cond-false (is_number w) (Some (min (magnitude w / 2 ^ 150) (2 ^ 48 - 1))) None (false_from_ne_true (is_number w) (λ e. none (is_passed w e))))

bound_reads_computes : (w v : ℕ) → ReadsBound w v → bound_of w ≡ Some v
bound_reads_computes w v reads = sym (bound_computes w (Some v) reads tt)

-- ---- what is read is read again

is_bound : (w v : ℕ) (t : Bool) → is_number w ≡ t → cond t (Some (min (magnitude w / 2 ^ 150) (2 ^ 48 - 1))) None ≡ Some v → IsNumber w × (min (magnitude w / 2 ^ 150) (2 ^ 48 - 1) ≡ v)
is_bound w v true t e = (is_passed w t, cc)
is_bound w v false t e = cc

pub bound_is_of : (w v : ℕ) → bound_of w ≡ Some v → IsNumber w × (min (magnitude w / 2 ^ 150) (2 ^ 48 - 1) ≡ v)
unfolding bound_of
bound_is_of w v e = is_bound w v (is_number w) refl e

-- the greatest number that is not above n units
bound_greatest : (n : ℕ) → IsGreatest (λ u. (u ≤ 2 ^ 48 - 1) × (units u ≤ n)) (min (n / 2 ^ 150) (2 ^ 48 - 1))
unfolding units
bound_greatest n =
    let b = min (n / 2 ^ 150) (2 ^ 48 - 1) in
    let d = div-add-mod' n (2 ^ 150) in
    let r = mod_below n (2 ^ 150) (pow_pos 150) in
    let down : b ≤ n / 2 ^ 150 = omega arith in
    let le : b * 2 ^ 150 ≤ n / 2 ^ 150 * 2 ^ 150 = mul-le-mul_right (2 ^ 150) down in
    record {
      holds = (omega arith, omega (arith, le, d));
      greatest = λ u h.
          let lt : u * 2 ^ 150 < (n / 2 ^ 150 + 1) * 2 ^ 150 = omega (arith, h.1, d, r) in
          let below : u < n / 2 ^ 150 + 1 = lt_of_mul-lt-mul_right (2 ^ 150) lt in
          omega (arith, h.0);
    }

pub bound_is_read : (w v : ℕ) → bound_of w ≡ Some v → ReadsBound w v
bound_is_read w v e =
    let b = bound_is_of w v e in
    record { number = b.0; greatest = rw b.1 at (bound_greatest (magnitude w)) }

is_bandwidth : (w v b : ℕ) (t : Bool) → is_number w && ltb b (2 ^ 48) ≡ t → cond t (Some b) None ≡ Some v → IsNumber w × (b < 2 ^ 48) × (b ≡ v)
is_bandwidth w v b true t e = let p = and_parts (is_number w) (ltb b (2 ^ 48)) t in (is_passed w p.0, ltb-true _ _ p.1, cc)
is_bandwidth w v b false t e = cc

pub bandwidth_is_of : (w v : ℕ) → bandwidth_of w ≡ Some v → IsBandwidth v
unfolding bandwidth_of
bandwidth_is_of w v e =
    let p = is_bandwidth w v (rounded_up (magnitude w)) (is_number w && ltb (rounded_up (magnitude w)) (2 ^ 48)) refl e in
    record { word = w; reads = record { number = p.0; least = rw p.2 at (rounds (magnitude w)); small = omega (arith, p.1, p.2) } }

word_number : (v w : ℕ) → IsWordOf v w → IsNumber w
word_number v w word = record { finite = omega (arith, word.holds.0); sign = inl (omega (arith, word.holds.0)) }

pub bandwidth_again : (v w : ℕ) → IsBandwidth v → IsWordOf v w → bandwidth_of w ≡ Some v
bandwidth_again v w known word =
    let same = word_exact v w known word in
    reads_computes w v (record {
      number = word_number v w word;
      least = record { holds = omega (arith, same); least = λ u h. units_le v u (omega (arith, same)) };
      small = known.reads.small;
    })

over_units : (n k : ℕ) → n ≤ units k → n / 2 ^ 150 ≤ k
unfolding units
over_units n k h =
    let d = div-add-mod' n (2 ^ 150) in
    let le : n / 2 ^ 150 * 2 ^ 150 ≤ k * 2 ^ 150 = omega (arith, d) in
    le_of_mul-le-mul_right le (pow_pos 150)

of_units : (n k : ℕ) → n ≡ units k → n / 2 ^ 150 ≡ k
unfolding units
of_units n k e =
    let d = div-add-mod' n (2 ^ 150) in
    let r = mod_below n (2 ^ 150) (pow_pos 150) in
    let lt : k * 2 ^ 150 < (n / 2 ^ 150 + 1) * 2 ^ 150 = omega (arith, d, r) in
    let below : k < n / 2 ^ 150 + 1 = lt_of_mul-lt-mul_right (2 ^ 150) lt in
    let above : n / 2 ^ 150 ≤ k = over_units n k (omega arith) in
    omega arith

-- a bound is exactly a word's value, or is 2 ^ 48 - 1
exact_below : (w v : ℕ) → IsNumber w → w < 2 ^ 31 → min (magnitude w / 2 ^ 150) (2 ^ 48 - 1) ≡ v → ((x : ℕ) × IsExactly v x) ⊎ (v ≡ 2 ^ 48 - 1)
unfolding magnitude
exact_below w v number lt e =
    let p = Packed-parts w lt in
    elim (cases_lt (scale w) 150) [
      | inl low ↦
          let a = over_units (mantissa w * 2 ^ scale w) (mantissa w) (units_more (mantissa w) (scale w) (omega arith)) in
          inl (exact_small v (omega (arith, p.fits)))
      | inr high ↦
          let k = mantissa w * 2 ^ (scale w - 150) in
          let same = shift_is (mantissa w) (scale w - 150) (scale w) (omega arith) in
          let a = of_units (mantissa w * 2 ^ scale w) k same in
          elim (cases_lt k (2 ^ 48)) [
            | inl small ↦ let c : k ≡ v = omega arith in inl (w, record { word = omega (arith, number.finite); same = same ∙ ap units c })
            | inr large ↦ inr (omega arith)
          ]
    ]

exact_bound : (w v : ℕ) → IsNumber w → min (magnitude w / 2 ^ 150) (2 ^ 48 - 1) ≡ v → ((x : ℕ) × IsExactly v x) ⊎ (v ≡ 2 ^ 48 - 1)
exact_bound w v number e =
    elim number.sign [
      | inl lt ↦ exact_below w v number lt e
      | inr minus ↦
          let z : magnitude w ≡ 0 = ap magnitude minus ∙ zero_magnitude in
          let q : v ≤ 0 = omega (arith, ap (λ (n : ℕ). n / 2 ^ 150) z) in
          inl (exact_small v (omega arith))
    ]

bound_reads : (v w : ℕ) → ((x : ℕ) × IsExactly v x) ⊎ (v ≡ 2 ^ 48 - 1) → v < 2 ^ 48 → IsWordOf v w → IsGreatest (λ u. (u ≤ 2 ^ 48 - 1) × (units u ≤ magnitude w)) v
bound_reads v w (inl x) small word =
    let le = word.least x.0 (x.1.word, omega (arith, x.1.same)) in
    let a = magnitude_mono w x.0 le (omega (arith, x.1.word)) in
    record { holds = (omega arith, word.holds.1); greatest = λ u h. units_le u v (omega (arith, a, x.1.same, h.1)) }
bound_reads v w (inr top) small word = record { holds = (omega arith, word.holds.1); greatest = λ u h. omega (arith, h.0) }

pub bound_again : (v w : ℕ) → IsBound v → IsWordOf v w → bound_of w ≡ Some v
bound_again v w known word =
    let b = bound_is_of known.word v (bound_reads_computes known.word v known.reads) in
    let small : v < 2 ^ 48 = omega (arith, b.1) in
    let g = bound_reads v w (exact_bound known.word v b.0 b.1) small word in
    bound_reads_computes w v (record { number = word_number v w word; greatest = g })

pub bound_known : (w v : ℕ) → bound_of w ≡ Some v → IsBound v
bound_known w v e = record { word = w; reads = bound_is_read w v e }

pub bound_small : (v : ℕ) → IsBound v → v < 2 ^ 48
bound_small v known = omega (arith, known.reads.greatest.holds.0)

pub bandwidth_written : (v : ℕ) → IsBandwidth v → bandwidth_of (word_of v) ≡ Some v
bandwidth_written v known = bandwidth_again v (word_of v) known (word_of_is v known.reads.small)

pub bound_written : (v : ℕ) → IsBound v → bound_of (word_of v) ≡ Some v
bound_written v known = bound_again v (word_of v) known (word_of_is v (bound_small v known))

pub word_fits : (v : ℕ) → v < 2 ^ 48 → word_of v < 2 ^ 31
word_fits v small = let o = word_of_is v small in omega (arith, o.holds.0)
