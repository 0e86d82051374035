-- Words that values are written as are read as them again, and end at a space.
use Rattle.std.proofs.Common.{◌≡◌, ℕ, zero, suc, ◌+◌, ◌/◌, ◌%◌, ◌^◌, ◌<◌, not, Bool, true, false, List, [], ◌∷◌, ◌++◌, length, drop, slice_index, Some, refl, sym, ap, ◌∙◌, nat_lt, append_assoc, tests, rules, arith}
use Rattle.std.specs.List.{list_all, position_or_len}
use Rattle.std.proofs.Math.Seq.{take-append_seam}
use Rattle.std.proofs.lemmas.List.{drop_at, length-append}
use Rattle.std.specs.Int.{byte_at}
use Rattle.std.specs.Fmt.{decimal}
use Rattle.std.specs.Result.{result_ok}
use Rattle.std.specs.Char.{is_ascii_digit}
use Rattle.std.specs.Str.{all_ascii_digits}
use Rattle.std.specs.Str.Parse.{digits_value}
use Rattle.std.proofs.lemmas.Bool.{and_parts}
use Rattle.std.proofs.lemmas.Bool.Decides.{nat_tests}
use Rattle.std.proofs.lemmas.Str.Parse.{IsNumeralModel, numerals_by_value, tells_all_ascii_digits}
use Rattle.std.proofs.lemmas.Fmt.{digits_decimal, digits_value-decimal, decimal_nonempty}
use Rattle.std.proofs.lemmas.List.Folds.{list_all-append}
use Rattle.hex.specs.Hex.{encode_with, encode_lower, lower_digits, IsBytes}
use Rattle.hex.proofs.HexLemmas.{decode_of-encode_lower}
use Rattle.pcep_word.specs.Address.{text_of}
use Rattle.asks.specs.Words.{is_space, cut_at_space, number_of_bits}
use Rattle.line_words.specs.Words.{is_equals, is_inner, IsWord, cut_at, bytes_in}

-- ---- a text ends at the first byte of a kind

-- no byte is of the kind
abbrev pub HasNone : (ℕ → Bool) → List ℕ → Type 0
HasNone kind text = list_all (λ b. not (kind b)) text ≡ true

off : (t : Bool) → not t ≡ true → t ≡ false
off true h = cc
off false h = refl

-- the first byte of the kind stands behind as many as are in front of it
found_at : (kind : ℕ → Bool) (front : List ℕ) (x : ℕ) (rest : List ℕ) → kind x ≡ true → HasNone kind front → position_or_len kind (front ++ x ∷ rest) ≡ length front
found_at kind [] x rest is none = rw is refl
found_at kind (b ∷ front) x rest is none =
    let parts = and_parts (not (kind b)) (list_all (λ b. not (kind b)) front) none in
    let more : 1 + length front ≡ suc (length front) = omega arith in
    rw (off (kind b) parts.0) (ap (λ (n : ℕ). 1 + n) (found_at kind front x rest is parts.1) ∙ more)

pub cut_found : (kind : ℕ → Bool) (front : List ℕ) (x : ℕ) (rest : List ℕ) → kind x ≡ true → HasNone kind front → cut_at kind (front ++ x ∷ rest) ≡ Some (front, rest)
cut_found kind front x rest is none =
    let whole : length (front ++ x ∷ rest) ≡ length front + suc (length rest) = length-append front (x ∷ rest) in
    let within : nat_lt (length front) (length (front ++ x ∷ rest)) ≡ true = search (rules, tests) in
    let one : length (front ++ x ∷ []) ≡ length front + 1 = length-append front (x ∷ []) in
    let behind : drop (length front + 1) (front ++ x ∷ rest) ≡ rest = ap (drop (length front + 1)) (sym (append_assoc front (x ∷ []) rest)) ∙ drop_at (front ++ x ∷ []) rest (length front + 1) one in
    rw (found_at kind front x rest is none, within, take-append_seam front (x ∷ rest), behind) refl

-- ---- a word ends at the space behind it

no_space : (word : List ℕ) → IsWord word → HasNone is_space word
no_space [] h = refl
no_space (b ∷ word) h =
    let parts = and_parts (is_inner b) (list_all is_inner word) h in
    let both = and_parts (not (is_space b)) (not (is_equals b)) parts.0 in
    rw both.0 (no_space word parts.1)

pub no_equals : (word : List ℕ) → IsWord word → HasNone is_equals word
no_equals [] h = refl
no_equals (b ∷ word) h =
    let parts = and_parts (is_inner b) (list_all is_inner word) h in
    let both = and_parts (not (is_space b)) (not (is_equals b)) parts.0 in
    rw both.1 (no_equals word parts.1)

pub ends : (word rest : List ℕ) → IsWord word → cut_at_space (word ++ 32 ∷ rest) ≡ Some (word, rest)
ends word rest h = cut_found is_space word 32 rest refl (no_space word h)

-- ---- what is a word

pub numerals : IsNumeralModel (λ ds. all_ascii_digits ds ≡ true) (digits_value 10)
numerals = numerals_by_value _ tells_all_ascii_digits

inner_digit : (b : ℕ) → is_ascii_digit b ≡ true → is_inner b ≡ true
inner_digit b h = grind (arith, nat_tests)

digits_word : (ds : List ℕ) → all_ascii_digits ds ≡ true → IsWord ds
digits_word [] h = refl
digits_word (b ∷ ds) h =
    let parts = and_parts (is_ascii_digit b) (all_ascii_digits ds) h in
    rw (inner_digit b parts.0) (digits_word ds parts.1)

pub number_word : (n : ℕ) → n < 2 ^ 64 → IsWord (decimal n)
number_word n small = digits_word (decimal n) (digits_decimal numerals n small)

pub joined_word : (a b : List ℕ) → IsWord a → IsWord b → IsWord (a ++ b)
joined_word a b ha hb = list_all-append is_inner a b ∙ rw (ha, hb) refl

dot_word : (a b : List ℕ) → IsWord a → IsWord b → IsWord (a ++ 46 ∷ b)
dot_word a b ha hb = joined_word a (46 ∷ b) ha hb

pub address_word : (a : ℕ) → IsWord (text_of a)
unfolding text_of
address_word a =
    dot_word (decimal (byte_at 3 a)) _ (number_word (byte_at 3 a) (omega arith))
    (dot_word (decimal (byte_at 2 a)) _ (number_word (byte_at 2 a) (omega arith))
    (dot_word (decimal (byte_at 1 a)) (decimal (byte_at 0 a)) (number_word (byte_at 1 a) (omega arith)) (number_word (byte_at 0 a) (omega arith))))

-- each element of a list of inner bytes is one, and so is what stands past its end
inner_index : (t : List ℕ) (k : ℕ) → IsWord t → is_inner (slice_index t k) ≡ true
inner_index [] k h = refl
inner_index (b ∷ t) zero h = (and_parts (is_inner b) (list_all is_inner t) h).0
inner_index (b ∷ t) (suc k) h = inner_index t k (and_parts (is_inner b) (list_all is_inner t) h).1

encoded_word : (t bytes : List ℕ) → IsWord t → IsWord (encode_with t bytes)
unfolding encode_with
encoded_word t [] h = refl
encoded_word t (b ∷ bytes) h = rw (inner_index t (b / 16) h, inner_index t (b % 16) h) (encoded_word t bytes h)

pub bytes_word : (bytes : List ℕ) → IsWord (encode_lower bytes)
bytes_word bytes = encoded_word lower_digits bytes refl

-- ---- read again

pub number_again : (bits n : ℕ) → n < 2 ^ 64 → n < 2 ^ bits → number_of_bits bits (decimal n) ≡ Some n
number_again bits n small fits =
    let digits : all_ascii_digits (decimal n) ≡ true = digits_decimal numerals n small in
    let value : digits_value 10 (decimal n) ≡ n = digits_value-decimal numerals n small in
    let long : 0 < length (decimal n) = decimal_nonempty n small in
    let some : nat_lt 0 (length (decimal n)) ≡ true = search (rules, tests) in
    let least : nat_lt n (2 ^ bits) ≡ true = search (rules, tests) in
    rw (digits, some, value, least) refl

pub bytes_again : (bytes : List ℕ) → IsBytes bytes → bytes_in (encode_lower bytes) ≡ Some bytes
unfolding bytes_in
bytes_again bytes h = ap result_ok (decode_of-encode_lower bytes h)
