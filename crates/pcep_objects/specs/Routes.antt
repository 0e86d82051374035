-- Routes as lists of subobjects (RFC 3209 sections 4.3.3 and 4.4.1): a kind and a length of 1 byte each, and the rest.
-- The length counts both of these bytes.
use Rattle.std.specs.Prelude.{ℕ, ◌%◌, Bool, not, ◌&&◌, ◌||◌, List, length, drop, slice_index, Result, Ok, Err, nat_lt, ◌==◌, if◌then◌else◌, bit_and}
use Rattle.pcep_objects.specs.Steps.{field, has, pieces}
use Rattle.pcep_objects.specs.declared.fault.BodyFault.{BodyFault}
use Rattle.pcep_objects.specs.declared.fault.BodyFault.TheVariants.{BadLength}
use Rattle.lsp_words.specs.declared.object.Hop.{Hop}
use Rattle.lsp_words.specs.declared.object.Hop.TheVariants.{Host, Other}

-- the length of the first subobject: a multiple of 4, at least 4, and no more than the bytes that are there
unfoldable pub subobject_size : List ℕ → Result ℕ BodyFault
subobject_size bytes =
    let n = slice_index bytes 1 in
    if nat_lt n 4 || nat_lt (length bytes) n || not (n % 4 == 0) then Err BadLength else Ok n

-- the type of a subobject: in an explicit route the top bit of its first byte is the loose bit; a recorded route has no
-- such bit
abbrev pub plain_type : Bool → ℕ → ℕ
plain_type explicit kind = if explicit then bit_and kind 0x7f else kind

-- A subobject of type 1 has 8 bytes: an address, a prefix length and a last byte that is ignored. With
-- prefix length 32 it is a host. All others are kept as they are.
unfoldable pub hop_of : Bool → List ℕ → Result Hop BodyFault
hop_of explicit subobject =
    let kind = slice_index subobject 0 in
    let is_address = plain_type explicit kind == 1 in
    if is_address && not (length subobject == 8) then Err BadLength
    else (if is_address && slice_index subobject 6 == 32 then Ok (Host (field 2 4 subobject) (explicit && has kind 0x80))
    else Ok (Other kind (drop 2 subobject)))

unfoldable pub hops_of : Bool → List ℕ → Result (List Hop) BodyFault
hops_of explicit bytes = pieces subobject_size (hop_of explicit) bytes
