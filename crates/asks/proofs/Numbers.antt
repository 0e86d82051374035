-- Decimal numbers as std parses them.
use Rattle.std.proofs.Common.{◌≡◌, ◌≢◌, ℕ, ◌<◌, ◌^◌, ◌==◌, true, false, List, [], ◌∷◌, length, get_or, slice_index, None, Result, Ok, Err, refl, inl, inr, nat_lt, rules, tests, arith}
use Rattle.std.proofs.lemmas.Bool.{cases_Bool}
use Rattle.std.proofs.lemmas.Bool.Decides.{nat_tests}
use Rattle.std.proofs.lemmas.Str.Parse.{IsNumeralModel, numerals_by_value, tells_all_ascii_digits, parse_plain}
use Rattle.std.specs.Result.{OkIff, result_ok}
use Rattle.std.specs.Str.{all_ascii_digits}
use Rattle.std.specs.Str.Parse.{digits_value, ParsesUnsigned}
use Rattle.asks.specs.Words.{number_of_bits}

numerals : IsNumeralModel (λ ds. all_ascii_digits ds ≡ true) (digits_value 10)
numerals = numerals_by_value _ tells_all_ascii_digits

-- a sign is no digit
pub plus_is_none : (bits : ℕ) (word : List ℕ) → (slice_index word 0 == 43) ≡ true → None ≡ number_of_bits bits word
plus_is_none bits [] h = cc
plus_is_none bits (b ∷ bs) h = let e : b ≡ 43 = grind (arith, nat_tests) in rw e refl

from_parts : {E : Type 0} (bits : ℕ) (word : List ℕ) (r : Result ℕ E) → OkIff r ((all_ascii_digits word ≡ true) × (0 < length word) × (digits_value 10 word < 2 ^ bits)) (digits_value 10 word) → result_ok r ≡ number_of_bits bits word
from_parts bits word (Ok x) h =
    let some : nat_lt 0 (length word) ≡ true = search (rules, tests) in
    let small : nat_lt (digits_value 10 word) (2 ^ bits) ≡ true = search (rules, tests) in
    rw (h.0.0, some, small, h.1) refl
from_parts bits word (Err e) h =
    elim (cases_Bool (all_ascii_digits word)) [
      | inr bad ↦ rw bad refl
      | inl digits ↦ elim (cases_Bool (nat_lt 0 (length word))) [
        | inr empty ↦ rw (digits, empty) refl
        | inl some ↦ elim (cases_Bool (nat_lt (digits_value 10 word) (2 ^ bits))) [
          | inr great ↦ rw (digits, some, great) refl
          | inl small ↦ absurd (h (digits, search (rules, tests), search (rules, tests)))
        ]
      ]
    ]

-- what std parses, if there is no sign
pub by_parse : {E : Type 0} (bits : ℕ) (word : List ℕ) (r : Result ℕ E) → (slice_index word 0 == 43) ≡ false → ParsesUnsigned bits 10 word r → result_ok r ≡ number_of_bits bits word
by_parse bits word r plain h =
    let other : get_or word 0 0 ≢ 43 = grind (arith, nat_tests) in
    from_parts bits word r (parse_plain numerals bits word r h other)
