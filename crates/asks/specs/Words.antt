-- Words of a line or a query: numbers, peers, PLSP-IDs, priorities and bandwidths.
use Rattle.std.specs.Prelude.{ℕ, ◌+◌, ◌^◌, ◌==◌, ◌&&◌, nat_lt, Bool, List, length, take, drop, position, Option, Some, None, option_map, option_and_then, if◌then◌else◌}
use Rattle.std.specs.Str.{all_ascii_digits}
use Rattle.std.specs.Str.Parse.{digits_value}
use Rattle.pcep_word.specs.Address.{address_of}
use Rattle.pcep_word.specs.Word.{bandwidth_of, word_of}

abbrev pub is_space : ℕ → Bool
is_space byte = byte == 32

-- what stands before the first space, and after it
abbrev pub cut_at_space : List ℕ → Option (List ℕ × List ℕ)
cut_at_space line = option_map (λ i. (take i line, drop (i + 1) line)) (position is_space line)

-- the same of any byte
abbrev pub cut_at : ℕ → List ℕ → Option (List ℕ × List ℕ)
cut_at byte text = option_map (λ i. (take i text, drop (i + 1) text)) (position (λ b. b == byte) text)

-- a number below 2 ^ bits in decimal; it may have leading zeros
abbrev pub number_of_bits : ℕ → List ℕ → Option ℕ
number_of_bits bits word =
    if all_ascii_digits word && nat_lt 0 (length word) && nat_lt (digits_value 10 word) (2 ^ bits) then Some (digits_value 10 word) else None

abbrev pub number_in : List ℕ → Option ℕ
number_in word = number_of_bits 32 word

-- a PLSP-ID (RFC 8231 section 7.3)
abbrev pub plsp_in : List ℕ → Option ℕ
plsp_in word = number_of_bits 20 word

-- a moment in milliseconds, a ticket's number, or a link's
abbrev pub long_number_in : List ℕ → Option ℕ
long_number_in word = number_of_bits 64 word

-- a setup or holding priority (RFC 5440 section 7.11)
abbrev pub priority_in : List ℕ → Option ℕ
priority_in word = number_of_bits 3 word

-- a number, or the number of a dotted address
abbrev pub peer_or : Option ℕ → List ℕ → Option ℕ
peer_or (Some number) word = Some number
peer_or None word = address_of word

-- a peer: its number, in decimal or as a dotted address
abbrev pub peer_in : List ℕ → Option ℕ
peer_in word = peer_or (number_in word) word

-- The least bandwidth that is not below the number: what the number's word reads as (RFC 5440 section 7.7). `raised` has a
-- clause that it is the least.
abbrev pub raised : ℕ → Option ℕ
raised number = if nat_lt number (2 ^ 48) then bandwidth_of (word_of number) else None

abbrev pub bandwidth_in : List ℕ → Option ℕ
bandwidth_in word = option_and_then raised (long_number_in word)
