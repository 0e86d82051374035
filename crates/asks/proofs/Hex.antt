-- Hexadecimal numbers as std parses them.
use Rattle.std.proofs.Common.{◌≡◌, ℕ, ◌<◌, ◌^◌, ◌==◌, true, false, List, [], ◌∷◌, length, slice_index, None, Result, Ok, Err, refl, inl, inr, nat_lt, rules, tests, arith}
use Rattle.std.proofs.lemmas.Bool.{cases_Bool}
use Rattle.std.proofs.lemmas.Bool.Decides.{nat_tests}
use Rattle.std.specs.Char.{digit_value}
use Rattle.std.specs.List.{list_all}
use Rattle.std.specs.Result.{OkIff, result_ok}
use Rattle.std.specs.Str.Parse.{AllDigits, IsNumeral, digits_value, ParsesUnsigned}
use Rattle.asks.specs.Limits.{hex_number_in, is_hex_digit}

-- a sign is no digit
pub plus_is_none : (word : List ℕ) → (slice_index word 0 == 43) ≡ true → None ≡ hex_number_in word
plus_is_none [] h = cc
plus_is_none (b ∷ bs) h = let e : b ≡ 43 = grind (arith, nat_tests) in rw e refl

tested : (word : List ℕ) → AllDigits 16 word → list_all is_hex_digit word ≡ true
tested [] d = refl
tested (c ∷ cs) d =
    let one : nat_lt (digit_value c) 16 ≡ true = search (rules, tests) in
    let rest : list_all is_hex_digit cs ≡ true = tested cs d.1 in
    rw (one, rest) refl

digits : (word : List ℕ) → list_all is_hex_digit word ≡ true → AllDigits 16 word
digits [] h = tt
digits (c ∷ cs) h =
    elim (cases_Bool (nat_lt (digit_value c) 16)) [
      | inr other ↦ absurd (let bad : false ≡ true = rw other at h in cc)
      | inl one ↦
          let rest : list_all is_hex_digit cs ≡ true = rw one at h in
          (grind (arith, nat_tests, one), digits cs rest)
    ]

from_parts : {E : Type 0} (word : List ℕ) (r : Result ℕ E) → OkIff r (IsNumeral 16 word × (digits_value 16 word < 2 ^ 32)) (digits_value 16 word) → result_ok r ≡ hex_number_in word
from_parts word (Ok x) h =
    let all : list_all is_hex_digit word ≡ true = tested word h.0.0.1 in
    let some : nat_lt 0 (length word) ≡ true = search (rules, tests) in
    let small : nat_lt (digits_value 16 word) (2 ^ 32) ≡ true = search (rules, tests) in
    rw (all, some, small, h.1) refl
from_parts word (Err e) h =
    elim (cases_Bool (list_all is_hex_digit word)) [
      | inr bad ↦ rw bad refl
      | inl all ↦ elim (cases_Bool (nat_lt 0 (length word))) [
        | inr empty ↦ rw (all, empty) refl
        | inl some ↦ elim (cases_Bool (nat_lt (digits_value 16 word) (2 ^ 32))) [
          | inr great ↦ rw (all, some, great) refl
          | inl small ↦ absurd (h ((search (rules, tests), digits word all), search (rules, tests)))
        ]
      ]
    ]

-- what std parses, if there is no sign
pub by_parse : {E : Type 0} (word : List ℕ) (r : Result ℕ E) → (slice_index word 0 == 43) ≡ false → ParsesUnsigned 32 16 word r → result_ok r ≡ hex_number_in word
by_parse word r plain h = from_parts word r (rw plain at h)
