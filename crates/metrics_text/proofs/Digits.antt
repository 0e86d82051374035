-- What numbers are written with, which needs no escaping.
use Rattle.std.proofs.Common.{◌≡◌, ◌∙◌, ℕ, zero, suc, ◌+◌, ◌/◌, ◌%◌, ◌≤◌, ◌<◌, false, List, [], ◌∷◌, ◌++◌, drop, refl, sym, ap, append_assoc, arith, codes}
use Rattle.std.proofs.Math.Dec.{eqb}
use Rattle.std.proofs.lemmas.Bool.{cond_both, lt-ltb, ne_eqb}
use Rattle.std.proofs.lemmas.Fmt.{decimal_step_wide}
use Rattle.std.specs.Fmt.{decimal, digit_glyph, digits, digits_onto}
use Rattle.std.specs.Int.{bytes_high_first}
use Rattle.pcep_word.specs.Address.{dotted, text_of}
use Rattle.metrics_text.specs.Exposition.{escaped, escaped_byte, places, seconds}

-- each is a digit
abbrev pub AreDigits : List ℕ → Type 0
AreDigits [] = Unit {0}
AreDigits (b ∷ bs) = (48 ≤ b) × (b ≤ 57) × AreDigits bs

abbrev pub IsSome_digit : List ℕ → Type 0
IsSome_digit [] = ⊥
IsSome_digit (b ∷ bs) = Unit {0}

glyph : (d : ℕ) → d < 10 → digit_glyph false d ≡ 48 + d
glyph d low = rw (lt-ltb d 10 low) refl

digit_before : (n : ℕ) (bs : List ℕ) → AreDigits bs → AreDigits (digit_glyph false (n % 10) ∷ bs)
digit_before n bs are = rw (glyph (n % 10) (omega arith)) (omega arith, omega arith, are)

onto_digits : (k n : ℕ) (bs : List ℕ) → AreDigits bs → AreDigits (digits_onto k 10 false n bs)
onto_digits zero n bs are = are
onto_digits (suc k) n bs are =
    cond_both (eqb (n / 10) 0) _ _ AreDigits (λ e. digit_before n bs are) (λ e. onto_digits k (n / 10) _ (digit_before n bs are))

onto_some : (k n : ℕ) (bs : List ℕ) → IsSome_digit bs → IsSome_digit (digits_onto k 10 false n bs)
onto_some zero n bs some = some
onto_some (suc k) n bs some = cond_both (eqb (n / 10) 0) _ _ IsSome_digit (λ e. tt) (λ e. onto_some k (n / 10) _ tt)

onto_first : (k n : ℕ) → IsSome_digit (digits_onto (suc k) 10 false n [])
onto_first k n = cond_both (eqb (n / 10) 0) _ _ IsSome_digit (λ e. tt) (λ e. onto_some k (n / 10) _ tt)

pub decimal_digits : (n : ℕ) → AreDigits (decimal n)
unfolding digits
decimal_digits n = onto_digits 64 n [] tt

pub decimal_some : (n : ℕ) → IsSome_digit (decimal n)
unfolding digits
decimal_some n = onto_first 63 n

drop_digits : (bs : List ℕ) → AreDigits bs → AreDigits (drop 1 bs)
drop_digits [] are = tt
drop_digits (b ∷ bs) are = are.2

drop_some : (bs : List ℕ) (b : ℕ) → IsSome_digit bs → IsSome_digit (drop 1 (bs ++ b ∷ []))
drop_some [] b some = absurd some
drop_some (c ∷ []) b some = tt
drop_some (c ∷ d ∷ bs) b some = tt

pub places_digits : (us : ℕ) → AreDigits (places us)
unfolding places
places_digits us = drop_digits (decimal (1000000 + us % 1000000)) (decimal_digits (1000000 + us % 1000000))

pub places_some : (us : ℕ) → IsSome_digit (places us)
unfolding places
places_some us =
    rw (decimal_step_wide (1000000 + us % 1000000) (omega arith) (omega arith))
    (drop_some (decimal ((1000000 + us % 1000000) / 10)) _ (decimal_some ((1000000 + us % 1000000) / 10)))

-- ---- escaping

escaped_digits : (bs : List ℕ) → AreDigits bs → escaped bs ≡ bs
escaped_digits [] are = refl
escaped_digits (b ∷ bs) are =
    rw (ne_eqb b 34 (λ e. omega (arith, are.0)), ne_eqb b 92 (λ e. omega (arith, are.1)), ne_eqb b 10 (λ e. omega (arith, are.0)))
    (ap (λ (x : List ℕ). b ∷ x) (escaped_digits bs are.2))

pub escaped-append : (a b : List ℕ) → escaped (a ++ b) ≡ escaped a ++ escaped b
escaped-append [] b = refl
escaped-append (x ∷ a) b = ap (λ (y : List ℕ). escaped_byte x ++ y) (escaped-append a b) ∙ sym (append_assoc (escaped_byte x) (escaped a) (escaped b))

pub decimal-escaped : (n : ℕ) → decimal n ≡ escaped (decimal n)
decimal-escaped n = sym (escaped_digits (decimal n) (decimal_digits n))

pub seconds-escaped : (us : ℕ) → seconds us ≡ escaped (seconds us)
unfolding seconds
seconds-escaped us = sym (
    escaped-append (decimal (us / 1000000)) (codes "." ++ places us)
    ∙ (λ i. escaped_digits (decimal (us / 1000000)) (decimal_digits (us / 1000000)) i ++ (codes "." ++ escaped_digits (places us) (places_digits us) i)))

escaped_dotted : (ns : List ℕ) → escaped (dotted ns) ≡ dotted ns
escaped_dotted [] = refl
escaped_dotted (n ∷ []) = escaped_digits (decimal n) (decimal_digits n)
escaped_dotted (n ∷ m ∷ ns) =
    escaped-append (decimal n) (46 ∷ dotted (m ∷ ns))
    ∙ (λ i. escaped_digits (decimal n) (decimal_digits n) i ++ (46 ∷ escaped_dotted (m ∷ ns) i))

pub address-escaped : (a : ℕ) → text_of a ≡ escaped (text_of a)
unfolding text_of
address-escaped a = sym (escaped_dotted (bytes_high_first 4 a))

pub ruleset escaping = (decimal-escaped, seconds-escaped, address-escaped)
