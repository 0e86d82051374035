-- TLVs (RFC 5440 section 7.1): a type and the length of the value, 2 bytes each, the value, and padding up to a
-- multiple of 4 that the length doesn't count. An object's TLVs are cut from its bytes. Of each type that the object
-- names, the first counts; all others are skipped.
use Rattle.std.specs.Prelude.{ℕ, ◌+◌, ◌*◌, ◌/◌, Bool, true, not, ◌&&◌, ◌||◌, List, [], ◌∷◌, ◌++◌, length, take, drop, slice_index, Option, Some, None, Result, Ok, Err, nat_lt, ◌==◌, if◌then◌else◌}
use Rattle.std.specs.Option.{option_map}
use Rattle.byteorder.specs.Endian.{big_bytes}
use Rattle.pcep_objects.specs.Steps.{◌>>=◌, field, pieces}
use Rattle.pcep_objects.specs.declared.fault.BodyFault.{BodyFault}
use Rattle.pcep_objects.specs.declared.fault.BodyFault.TheVariants.{BadTlv}
use Rattle.pcep_objects.specs.declared.object.Identifiers.{Identifiers}
use Rattle.pcep_objects.specs.declared.object.RsvpError.{RsvpError}

pub record Tlv : Type 0 where
  pub number : ℕ
  pub value : List ℕ

-- the length of a value with its padding
abbrev pub padded : ℕ → ℕ
padded n = (n + 3) / 4 * 4

-- the length of the first TLV with its padding; all of it must be there
unfoldable pub tlv_size : List ℕ → Result ℕ BodyFault
tlv_size bytes =
    let n = 4 + padded (field 2 2 bytes) in
    if nat_lt (length bytes) 4 || nat_lt (length bytes) n then Err BadTlv else Ok n

-- the TLV at the front
abbrev pub tlv_at : List ℕ → Tlv
tlv_at bytes = record { number = field 0 2 bytes; value = take (field 2 2 bytes) (drop 4 bytes) }

-- the TLVs of an object
unfoldable pub tlvs_in : List ℕ → Result (List Tlv) BodyFault
tlvs_in bytes = pieces tlv_size (λ tlv. Ok (tlv_at tlv)) bytes

-- an object that names no type: its TLVs only have to be complete
unfoldable pub skipped_tlvs : List ℕ → Result (Unit {0}) BodyFault
skipped_tlvs bytes = do
  tlvs ← tlvs_in bytes
  Ok tt

-- the value of the first TLV of a type
abbrev pub first_of : ℕ → List Tlv → Option (List ℕ)
first_of number [] = None
first_of number (tlv ∷ tlvs) = if tlv.number == number then Some tlv.value else first_of number tlvs

-- a value may have n bytes. None: it may have any length
abbrev pub may_have : Option ℕ → ℕ → Bool
may_have None n = true
may_have (Some size) n = n == size

-- each TLV of a type has a value of the type's size
abbrev pub are_sized : ℕ → Option ℕ → List Tlv → Bool
are_sized number size [] = true
are_sized number size (tlv ∷ tlvs) = (not (tlv.number == number) || may_have size (length tlv.value)) && are_sized number size tlvs

abbrev pub first_sized : ℕ → Option ℕ → List Tlv → Result (Option (List ℕ)) BodyFault
first_sized number size tlvs = if are_sized number size tlvs then Ok (first_of number tlvs) else Err BadTlv

-- the value that counts for a type whose values have this size
unfoldable pub value_in : ℕ → Option ℕ → List ℕ → Result (Option (List ℕ)) BodyFault
value_in number size bytes = do
  tlvs ← tlvs_in bytes
  first_sized number size tlvs

-- the same for a type whose values are words of 32 bits
unfoldable pub word_in : ℕ → List ℕ → Result (Option ℕ) BodyFault
word_in number bytes = do
  value ← value_in number (Some 4) bytes
  Ok (option_map (field 0 4) value)

-- the value of the first TLV of a type that has this size; those of another size are skipped
abbrev pub first_fitting : ℕ → ℕ → List Tlv → Option (List ℕ)
first_fitting number size [] = None
first_fitting number size (tlv ∷ tlvs) =
    if tlv.number == number && length tlv.value == size then Some tlv.value else first_fitting number size tlvs

unfoldable pub fitting_in : ℕ → ℕ → List ℕ → Result (Option (List ℕ)) BodyFault
fitting_in number size bytes = do
  tlvs ← tlvs_in bytes
  Ok (first_fitting number size tlvs)

-- RSVP-ERROR-SPEC (RFC 8231 section 7.3.4): an RSVP object ERROR_SPEC of IPv4, which is 12 bytes of class 6 and C-Type
-- 1 (RFC 2205 section A.5). Any other value says nothing.
abbrev pub rsvp_error_of : List ℕ → Option RsvpError
rsvp_error_of value =
    if field 0 4 value == 0x000C0601
    then Some (record { node = field 4 4 value; flags = slice_index value 8; code = slice_index value 9; value = field 10 2 value })
    else None

abbrev pub rsvp_error_in : Option (List ℕ) → Option RsvpError
rsvp_error_in None = None
rsvp_error_in (Some value) = rsvp_error_of value

-- IPV4-LSP-IDENTIFIERS (RFC 8231 section 7.3.1)
abbrev pub identifiers_of : List ℕ → Identifiers
identifiers_of value = record {
  sender = field 0 4 value;
  lsp = field 4 2 value;
  tunnel = field 6 2 value;
  extended = field 8 4 value;
  endpoint = field 12 4 value;
}

-- a TLV whose value is a word of 32 bits
abbrev pub word_spelled : ℕ → ℕ → List ℕ
word_spelled number word = big_bytes 2 number ++ big_bytes 2 4 ++ big_bytes 4 word
