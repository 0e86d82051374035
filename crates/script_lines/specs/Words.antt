-- Words of a script's line that `asks` doesn't read: bytes, names and paths.
use Rattle.std.specs.Prelude.{ℕ, ◌==◌, ◌&&◌, not, nat_le, Bool, List, filter, codes, Option, Some, None, option_map, is_some, if◌then◌else◌}
use Rattle.std.specs.List.{list_all, filter_map, slice_split}
use Rattle.std.specs.Result.{result_ok}
use Rattle.std.specs.Str.{bytes_eq}
use Rattle.asks.specs.Words.{is_space, long_number_in}
use Rattle.commit_core.specs.Names.{name_of}
use Rattle.hex.specs.Hex.{decode_of}

abbrev pub without_spaces : List ℕ → List ℕ
without_spaces text = filter (λ byte. not (is_space byte)) text

-- bytes in hexadecimal of either case, with spaces anywhere
abbrev pub octets : List ℕ → Option (List ℕ)
octets text = result_ok (decode_of (without_spaces text))

-- ---- what is asked of a path

abbrev pub is_printed : ℕ → Bool
is_printed byte = nat_le 0x21 byte && nat_le byte 0x7e

-- a symbolic path name that the PCE gives (RFC 8231 section 7.3.2), in printed characters of ASCII
abbrev pub name_in : List ℕ → Option (List ℕ)
name_in word = if list_all is_printed word then name_of word else None

-- ---- paths

-- the words between commas
abbrev pub parts : List ℕ → List (List ℕ)
parts text = slice_split (λ byte. byte == 44) text

abbrev pub is_link : List ℕ → Bool
is_link word = is_some (long_number_in word)

-- link numbers joined by commas; the links need not exist
abbrev pub links_in : List ℕ → Option (List ℕ)
links_in text = if list_all is_link (parts text) then Some (filter_map long_number_in (parts text)) else None

-- what a search answered: `none`, or the links of a path
abbrev pub offer_in : List ℕ → Option (Option (List ℕ))
offer_in word = if bytes_eq word (codes "none") then Some None else option_map (λ links. Some links) (links_in word)
