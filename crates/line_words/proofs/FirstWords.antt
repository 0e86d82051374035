-- The first word of a text is read again, and what stands behind it.
use Rattle.std.proofs.Common.{◌≡◌, ℕ, ◌^◌, ◌<◌, Bool, true, false, List, [], ◌∷◌, ◌++◌, codes, option_map, Option, Some, None, nat_lt, if◌then◌else◌, refl, sym, ap, ◌∙◌, rules, tests, append_assoc, arith}
use Rattle.std.specs.Fmt.{decimal}
use Rattle.std.proofs.lemmas.List.{append-nil}
use Rattle.hex.specs.Hex.{encode_lower, IsBytes}
use Rattle.pcep_word.specs.Address.{text_of, address_of, cut}
use Rattle.pcep_word.proofs.Addresses.{text_again}
use Rattle.std.specs.Bool.{Decides}
use Rattle.std.specs.Str.{bytes_eq}
use Rattle.std.proofs.lemmas.Slice.Eq.{bytes_eq-Decides}
use Rattle.asks.specs.Words.{cut_at_space, number_in, long_number_in, plsp_in}
use Rattle.line_words.specs.Words.{IsWord}
use Rattle.line_words.proofs.Again.{ends, number_word as number_is_word, address_word as address_is_word, bytes_word, number_again, bytes_again}
use Rattle.line_words.specs.Written.{number_word, address_word, hex_word, or_dash, MayBe}
use Rattle.line_words.specs.First.{first, or_missing, first_number, first_long_number, first_plsp, first_address, first_bytes, first_number_or_missing, first_long_or_missing, first_plsp_or_missing, first_address_or_missing}

-- ---- a word and a space, and what stands behind them

pub cut_word : (word rest : List ℕ) → IsWord word → cut_at_space ((word ++ codes " ") ++ rest) ≡ Some (word, rest)
cut_word word rest is = ap cut_at_space (append_assoc word (codes " ") rest) ∙ ends word rest is

pub cut_last : (word : List ℕ) → IsWord word → cut_at_space (word ++ codes " ") ≡ Some (word, [])
cut_last word is = ends word [] is

pub number_first : (n : ℕ) (rest : List ℕ) → n < 2 ^ 32 → first_number (number_word n ++ rest) ≡ Some (n, rest)
unfolding first_number
number_first n rest small = rw (cut_word (decimal n) rest (number_is_word n (omega arith)), number_again 32 n (omega arith) small) refl

pub number_last : (n : ℕ) → n < 2 ^ 32 → first_number (number_word n) ≡ Some (n, [])
unfolding first_number
number_last n small = rw (cut_last (decimal n) (number_is_word n (omega arith)), number_again 32 n (omega arith) small) refl

pub long_first : (n : ℕ) (rest : List ℕ) → n < 2 ^ 64 → first_long_number (number_word n ++ rest) ≡ Some (n, rest)
unfolding first_long_number
long_first n rest small = rw (cut_word (decimal n) rest (number_is_word n small), number_again 64 n small small) refl

pub long_last : (n : ℕ) → n < 2 ^ 64 → first_long_number (number_word n) ≡ Some (n, [])
unfolding first_long_number
long_last n small = rw (cut_last (decimal n) (number_is_word n small), number_again 64 n small small) refl

pub address_first : (a : ℕ) (rest : List ℕ) → a < 2 ^ 32 → first_address (address_word a ++ rest) ≡ Some (a, rest)
unfolding first_address
address_first a rest small = rw (cut_word (text_of a) rest (address_is_word a), text_again a small) refl

pub address_last : (a : ℕ) → a < 2 ^ 32 → first_address (address_word a) ≡ Some (a, [])
unfolding first_address
address_last a small = rw (cut_last (text_of a) (address_is_word a), text_again a small) refl

pub bytes_first : (bytes rest : List ℕ) → IsBytes bytes → first_bytes (hex_word bytes ++ rest) ≡ Some (bytes, rest)
unfolding first_bytes
bytes_first bytes rest are = rw (cut_word (encode_lower bytes) rest (bytes_word bytes), bytes_again bytes are) refl

pub bytes_last : (bytes : List ℕ) → IsBytes bytes → first_bytes (hex_word bytes) ≡ Some (bytes, [])
unfolding first_bytes
bytes_last bytes are = rw (cut_last (encode_lower bytes) (bytes_word bytes), bytes_again bytes are) refl

pub plsp_first : (plsp : ℕ) (rest : List ℕ) → plsp < 2 ^ 20 → first_plsp (number_word plsp ++ rest) ≡ Some (plsp, rest)
unfolding first_plsp
plsp_first plsp rest small = rw (cut_word (decimal plsp) rest (number_is_word plsp (omega arith)), number_again 20 plsp (omega arith) small) refl

pub plsp_last : (plsp : ℕ) → plsp < 2 ^ 20 → first_plsp (number_word plsp) ≡ Some (plsp, [])
unfolding first_plsp
plsp_last plsp small = rw (cut_last (decimal plsp) (number_is_word plsp (omega arith)), number_again 20 plsp (omega arith) small) refl

-- ---- a word of any kind, and one that may be missing

pub first_again : {A : Type 0} (read : List ℕ → Option A) (word rest : List ℕ) (x : A) → IsWord word → read word ≡ Some x → first read ((word ++ codes " ") ++ rest) ≡ Some (x, rest)
first_again read word rest x is reads = rw (cut_word word rest is, reads) refl

-- what is read isn't `-`
pub not_dash : {A : Type 0} (read : List ℕ → Option A) (word : List ℕ) (x : A) → read word ≡ Some x → read (codes "-") ≡ None → bytes_eq word (codes "-") ≡ false
not_dash read word x reads dash = by (bytes_eq word (codes "-")) (bytes_eq-Decides word (codes "-"))
  where
    by : (b : Bool) → Decides b (word ≡ codes "-") → b ≡ false
    by true same = absurd (let both : Some x ≡ None = sym reads ∙ ap read (same.0 refl) ∙ dash in cc)
    by false other = refl

missing : {A : Type 0} (read : List ℕ → Option A) (rest : List ℕ) → first (or_missing read) (codes "- " ++ rest) ≡ Some (None, rest)
missing read rest = rw (ends (codes "-") rest refl) refl

given : {A : Type 0} (read : List ℕ → Option A) (word rest : List ℕ) (x : A) → IsWord word → read word ≡ Some x → read (codes "-") ≡ None
    → first (or_missing read) ((word ++ codes " ") ++ rest) ≡ Some (Some x, rest)
given read word rest x is reads dash = rw (cut_word word rest is, not_dash read word x reads dash, reads) refl

pub number_or_missing : (o : Option ℕ) (rest : List ℕ) → MayBe (λ n. n < 2 ^ 32) o → first_number_or_missing (or_dash number_word o ++ rest) ≡ Some (o, rest)
unfolding first_number_or_missing
number_or_missing None rest is = missing number_in rest
number_or_missing (Some n) rest is = given number_in (decimal n) rest n (number_is_word n (omega (arith, is))) (number_again 32 n (omega (arith, is)) is) refl

pub long_or_missing : (o : Option ℕ) (rest : List ℕ) → MayBe (λ n. n < 2 ^ 64) o → first_long_or_missing (or_dash number_word o ++ rest) ≡ Some (o, rest)
unfolding first_long_or_missing
long_or_missing None rest is = missing long_number_in rest
long_or_missing (Some n) rest is = given long_number_in (decimal n) rest n (number_is_word n is) (number_again 64 n is is) refl

pub plsp_or_missing : (o : Option ℕ) (rest : List ℕ) → MayBe (λ n. n < 2 ^ 20) o → first_plsp_or_missing (or_dash number_word o ++ rest) ≡ Some (o, rest)
unfolding first_plsp_or_missing
plsp_or_missing None rest is = missing plsp_in rest
plsp_or_missing (Some n) rest is = given plsp_in (decimal n) rest n (number_is_word n (omega (arith, is))) (number_again 20 n (omega (arith, is)) is) refl

no_address : address_of (codes "-") ≡ None
unfolding address_of cut
no_address = refl

pub address_or_missing : (o : Option ℕ) (rest : List ℕ) → MayBe (λ n. n < 2 ^ 32) o → first_address_or_missing (or_dash address_word o ++ rest) ≡ Some (o, rest)
unfolding first_address_or_missing
address_or_missing None rest is = missing address_of rest
address_or_missing (Some a) rest is = given address_of (text_of a) rest a (address_is_word a) (text_again a is) no_address
