-- What a bandwidth is written as is read as it again.
use Rattle.std.proofs.Common.{◌≡◌, ℕ, suc, ◌+◌, ◌*◌, ◌/◌, ◌%◌, ◌^◌, ◌<◌, ◌≤◌, ◌==◌, not, Bool, true, false, List, [], ◌∷◌, ◌++◌, length, drop, codes, Some, None, refl, sym, ap, ◌∙◌, inl, inr, nat_lt, append_assoc, append-nil, tests, rules, arith}
use Rattle.std.specs.List.{list_all, position_or_len}
use Rattle.std.proofs.Math.Seq.{take-append_seam}
use Rattle.std.proofs.lemmas.List.{drop_at, length-append}
use Rattle.std.specs.Fmt.{decimal}
use Rattle.std.specs.Int.{div_ceil}
use Rattle.std.specs.Char.{is_ascii_digit}
use Rattle.std.specs.Str.{all_ascii_digits}
use Rattle.std.specs.Str.Parse.{digits_value}
use Rattle.std.proofs.lemmas.Bool.{and_parts, cases_Bool, eqb-true}
use Rattle.std.proofs.lemmas.Bool.Decides.{nat_tests}
use Rattle.std.proofs.lemmas.Str.Parse.{IsNumeralModel, numerals_by_value, tells_all_ascii_digits}
use Rattle.std.proofs.lemmas.Fmt.{digits_decimal, digits_value-decimal, decimal_nonempty}
use Rattle.std.proofs.lemmas.List.Folds.{list_all-append}
use Rattle.pcep_word.specs.Word.{IsBandwidth}
use Rattle.pcep_word.proofs.Reading.{bandwidth_written}
use Rattle.asks.specs.Words.{cut_at, long_number_in, raised}
use Rattle.asks.specs.Rates.{bandwidth_or_rate_in, before, bytes_of, decimal_in, in_unit, rate_in, rate_text, thousands, unit_in, unit_of}

-- ---- a text is cut at the first of a letter

abbrev HasNo : ℕ → List ℕ → Type 0
HasNo letter text = list_all (λ b. not (b == letter)) text ≡ true

off : (t : Bool) → not t ≡ true → t ≡ false
off true h = cc
off false h = refl

itself : (letter : ℕ) → (letter == letter) ≡ true
itself letter = search (rules, tests)

-- the first of the letter comes after as many bytes as are in front of it
found_at : (letter : ℕ) (front rest : List ℕ) → HasNo letter front → position_or_len (λ b. b == letter) (front ++ letter ∷ rest) ≡ length front
found_at letter [] rest none = rw (itself letter) refl
found_at letter (b ∷ front) rest none =
    let parts = and_parts (not (b == letter)) (list_all (λ b. not (b == letter)) front) none in
    let more : 1 + length front ≡ suc (length front) = omega arith in
    rw (off (b == letter) parts.0) (ap (λ (n : ℕ). 1 + n) (found_at letter front rest parts.1) ∙ more)

cut_found : (letter : ℕ) (front rest : List ℕ) → HasNo letter front → cut_at letter (front ++ letter ∷ rest) ≡ Some (front, rest)
cut_found letter front rest none =
    let whole : length (front ++ letter ∷ rest) ≡ length front + suc (length rest) = length-append front (letter ∷ rest) in
    let within : nat_lt (length front) (length (front ++ letter ∷ rest)) ≡ true = search (rules, tests) in
    let one : length (front ++ letter ∷ []) ≡ length front + 1 = length-append front (letter ∷ []) in
    let behind : drop (length front + 1) (front ++ letter ∷ rest) ≡ rest = ap (drop (length front + 1)) (sym (append_assoc front (letter ∷ []) rest)) ∙ drop_at (front ++ letter ∷ []) rest (length front + 1) one in
    rw (found_at letter front rest none, within, take-append_seam front (letter ∷ rest), behind) refl

nowhere : (letter : ℕ) (text : List ℕ) → HasNo letter text → position_or_len (λ b. b == letter) text ≡ length text
nowhere letter [] none = refl
nowhere letter (b ∷ text) none =
    let parts = and_parts (not (b == letter)) (list_all (λ b. not (b == letter)) text) none in
    let more : 1 + length text ≡ suc (length text) = omega arith in
    rw (off (b == letter) parts.0) (ap (λ (n : ℕ). 1 + n) (nowhere letter text parts.1) ∙ more)

cut_none : (letter : ℕ) (text : List ℕ) → HasNo letter text → cut_at letter text ≡ None
cut_none letter text none =
    let past : nat_lt (length text) (length text) ≡ false = search (rules, tests) in
    rw (nowhere letter text none, past) refl

has_no_both : (letter : ℕ) (a b : List ℕ) → HasNo letter a → HasNo letter b → HasNo letter (a ++ b)
has_no_both letter a b ha hb = list_all-append (λ b. not (b == letter)) a b ∙ rw (ha, hb) refl

other : (b letter : ℕ) → is_ascii_digit letter ≡ false → is_ascii_digit b ≡ true → not (b == letter) ≡ true
other b letter none digit = grind (arith, nat_tests)

-- digits have no letters
digits_have_no : (letter : ℕ) (ds : List ℕ) → is_ascii_digit letter ≡ false → all_ascii_digits ds ≡ true → HasNo letter ds
digits_have_no letter [] none h = refl
digits_have_no letter (b ∷ ds) none h =
    let parts = and_parts (is_ascii_digit b) (all_ascii_digits ds) h in
    rw (other b letter none parts.0) (digits_have_no letter ds none parts.1)

-- ---- a number is read again

numerals : IsNumeralModel (λ ds. all_ascii_digits ds ≡ true) (digits_value 10)
numerals = numerals_by_value _ tells_all_ascii_digits

number_again : (n : ℕ) → n < 2 ^ 64 → long_number_in (decimal n) ≡ Some n
number_again n small =
    let digits : all_ascii_digits (decimal n) ≡ true = digits_decimal numerals n small in
    let value : digits_value 10 (decimal n) ≡ n = digits_value-decimal numerals n small in
    let long : 0 < length (decimal n) = decimal_nonempty n small in
    let some : nat_lt 0 (length (decimal n)) ≡ true = search (rules, tests) in
    let least : nat_lt n (2 ^ 64) ≡ true = search (rules, tests) in
    rw (digits, some, value, least) refl

whole_again : (n : ℕ) → n < 2 ^ 64 → decimal_in (decimal n) ≡ Some (record { whole = n; fraction = 0; parts = 1 })
unfolding decimal_in
whole_again n small =
    let digits : all_ascii_digits (decimal n) ≡ true = digits_decimal numerals n small in
    rw (cut_none 46 (decimal n) (digits_have_no 46 (decimal n) refl digits), number_again n small) refl

-- ---- a unit is read again

-- a letter after digits
before_found : (letter : ℕ) (ds : List ℕ) → is_ascii_digit letter ≡ false → all_ascii_digits ds ≡ true → before letter [] (ds ++ letter ∷ []) ≡ Some ds
before_found letter ds none digits = rw (cut_found letter ds [] (digits_have_no letter ds none digits)) refl

before_none : (letter : ℕ) (text : List ℕ) → HasNo letter text → before letter [] text ≡ None
before_none letter text none = rw (cut_none letter text none) refl

-- another letter after digits
before_other : (letter x : ℕ) (ds : List ℕ) → is_ascii_digit letter ≡ false → not (x == letter) ≡ true → all_ascii_digits ds ≡ true → before letter [] (ds ++ x ∷ []) ≡ None
before_other letter x ds none apart digits =
    before_none letter (ds ++ x ∷ []) (has_no_both letter ds (x ∷ []) (digits_have_no letter ds none digits) (rw apart refl))

-- A unit has so many bits, and they are a whole number of it. What stands before `bit` is taken off digits again.
record IsUnit (bits : ℕ) (unit : ℕ × List ℕ) : Type 0 where
  whole : bits / unit.0 * unit.0 ≡ bits
  small : bits / unit.0 ≤ bits
  no_bytes : HasNo 66 unit.1
  no_bits : HasNo 98 unit.1
  again : (ds : List ℕ) → all_ascii_digits ds ≡ true → thousands (ds ++ unit.1) ≡ (ds, unit.0)

plain : (ds : List ℕ) → all_ascii_digits ds ≡ true → thousands ds ≡ (ds, 1)
unfolding thousands
plain ds digits =
    rw (
      before_none 107 ds (digits_have_no 107 ds refl digits),
      before_none 77 ds (digits_have_no 77 ds refl digits),
      before_none 71 ds (digits_have_no 71 ds refl digits),
      before_none 84 ds (digits_have_no 84 ds refl digits),
    ) refl

kilo : (ds : List ℕ) → all_ascii_digits ds ≡ true → thousands (ds ++ codes "k") ≡ (ds, 1_000)
unfolding thousands
kilo ds digits = rw (before_found 107 ds refl digits) refl

mega : (ds : List ℕ) → all_ascii_digits ds ≡ true → thousands (ds ++ codes "M") ≡ (ds, 1_000_000)
unfolding thousands
mega ds digits = rw (before_other 107 77 ds refl refl digits, before_found 77 ds refl digits) refl

giga : (ds : List ℕ) → all_ascii_digits ds ≡ true → thousands (ds ++ codes "G") ≡ (ds, 1_000_000_000)
unfolding thousands
giga ds digits = rw (before_other 107 71 ds refl refl digits, before_other 77 71 ds refl refl digits, before_found 71 ds refl digits) refl

tera : (ds : List ℕ) → all_ascii_digits ds ≡ true → thousands (ds ++ codes "T") ≡ (ds, 1_000_000_000_000)
unfolding thousands
tera ds digits =
    rw (
      before_other 107 84 ds refl refl digits,
      before_other 77 84 ds refl refl digits,
      before_other 71 84 ds refl refl digits,
      before_found 84 ds refl digits,
    ) refl

units : (bits : ℕ) → IsUnit bits (unit_of bits)
unfolding unit_of
units bits =
    elim (cases_Bool (bits == 0)) [
      | inl none ↦ rw none (record { whole = omega arith; small = omega arith; no_bytes = refl; no_bits = refl; again = λ ds h. rw (append-nil ds) (plain ds h) })
      | inr some ↦ elim (cases_Bool (bits % 1_000_000_000_000 == 0)) [
        | inl t ↦ rw (some, t) (let z = eqb-true _ _ t in record { whole = omega (arith, z); small = omega arith; no_bytes = refl; no_bits = refl; again = tera })
        | inr no_t ↦ elim (cases_Bool (bits % 1_000_000_000 == 0)) [
          | inl g ↦ rw (some, no_t, g) (let z = eqb-true _ _ g in record { whole = omega (arith, z); small = omega arith; no_bytes = refl; no_bits = refl; again = giga })
          | inr no_g ↦ elim (cases_Bool (bits % 1_000_000 == 0)) [
            | inl m ↦ rw (some, no_t, no_g, m) (let z = eqb-true _ _ m in record { whole = omega (arith, z); small = omega arith; no_bytes = refl; no_bits = refl; again = mega })
            | inr no_m ↦ elim (cases_Bool (bits % 1_000 == 0)) [
              | inl k ↦ rw (some, no_t, no_g, no_m, k) (let z = eqb-true _ _ k in record { whole = omega (arith, z); small = omega arith; no_bytes = refl; no_bits = refl; again = kilo })
              | inr no_k ↦ rw (some, no_t, no_g, no_m, no_k) (record { whole = omega arith; small = omega arith; no_bytes = refl; no_bits = refl; again = λ ds h. rw (append-nil ds) (plain ds h) })
            ]
          ]
        ]
      ]
    ]

-- the number and the unit of a text of bits
unit_again : (bits : ℕ) (unit : ℕ × List ℕ) → IsUnit bits unit → bits < 2 ^ 64 → unit_in (in_unit bits unit) ≡ Some (decimal (bits / unit.0), unit.0)
unfolding unit_in
unit_again bits unit is small =
    let ds = decimal (bits / unit.0) in
    let digits : all_ascii_digits ds ≡ true = digits_decimal numerals (bits / unit.0) (omega (arith, is.small)) in
    let head : HasNo 98 (ds ++ unit.1) = has_no_both 98 ds unit.1 (digits_have_no 98 ds refl digits) is.no_bits in
    let front : HasNo 66 (ds ++ unit.1) = has_no_both 66 ds unit.1 (digits_have_no 66 ds refl digits) is.no_bytes in
    let no_bytes : before 66 [] (ds ++ unit.1 ++ codes "bit") ≡ None = before_none 66 (ds ++ unit.1 ++ codes "bit") (has_no_both 66 (ds ++ unit.1) (codes "bit") front refl) in
    let cut : before 98 (codes "it") (ds ++ unit.1 ++ codes "bit") ≡ Some (ds ++ unit.1) = rw (cut_found 98 (ds ++ unit.1) (codes "it") head) refl in
    rw (no_bytes, cut, is.again ds digits) refl

bytes_again : (number bits n : ℕ) → number * bits ≡ 8 * n → n < 2 ^ 48 → bytes_of (record { whole = number; fraction = 0; parts = 1 }) bits ≡ Some n
bytes_again number bits n is small =
    let below : nat_lt (number * bits) (2 ^ 51) ≡ true = search (rules, tests) in
    let top : number * bits * 1 + 0 * bits ≡ 8 * n = omega (arith, is) in
    let bytes : div_ceil (8 * n) (8 * 1) ≡ n = omega arith in
    let fits : nat_lt n (2 ^ 48) ≡ true = search (rules, tests) in
    rw (below, top, bytes, fits) refl

pub rate_again : (n : ℕ) → n < 2 ^ 48 → rate_in (rate_text n) ≡ Some n
unfolding rate_in
rate_again n small =
    let is = units (8 * n) in
    let number = 8 * n / (unit_of (8 * n)).0 in
    rw (unit_again (8 * n) (unit_of (8 * n)) is (omega arith), whole_again number (omega (arith, is.small)))
    (bytes_again number (unit_of (8 * n)).0 n is.whole small)

-- ---- a bandwidth is read again

-- a text with a letter is no number
no_digits : (a b : List ℕ) → all_ascii_digits b ≡ false → all_ascii_digits (a ++ b) ≡ false
no_digits [] b h = h
no_digits (x ∷ a) b h = elim (cases_Bool (is_ascii_digit x)) [ inl digit ↦ rw digit (no_digits a b h) | inr letter ↦ rw letter refl ]

no_number : (word : List ℕ) → all_ascii_digits word ≡ false → long_number_in word ≡ None
no_number word h = rw h refl

raised_again : (b : ℕ) → IsBandwidth b → raised b ≡ Some b
raised_again b known =
    let small : nat_lt b (2 ^ 48) ≡ true = let s = known.reads.small in search (rules, tests) in
    rw small (bandwidth_written b known)

pub bandwidth_again : (b : ℕ) → IsBandwidth b → bandwidth_or_rate_in (rate_text b) ≡ Some b
bandwidth_again b known =
    let unit = unit_of (8 * b) in
    let letters : all_ascii_digits (rate_text b) ≡ false = no_digits (decimal (8 * b / unit.0) ++ unit.1) (codes "bit") refl in
    rw (no_number (rate_text b) letters, rate_again b known.reads.small) (raised_again b known)
