-- Whether a request names this server by an address, or by the name that it was given.
use Rattle.std.specs.Prelude.{ℕ, ◌==◌, ◌&&◌, ◌||◌, not, Bool, false, List, length, codes, map, slice_index, is_some, Option, Some, None, option_map}
use Rattle.std.specs.Char.{to_ascii_lowercase}
use Rattle.std.specs.Str.{bytes_eq}
use Rattle.http_header.specs.FieldValue.{FieldValue, is_visible_text}
use Rattle.http_header.specs.HeaderMap.{Entries, get}
use Rattle.http_uri.specs.Grammar.{authority_host}
use Rattle.http_uri.specs.Uri.{uri_authority}
use Rattle.http_uri.specs.declared.uri.Uri.{Uri}
use Rattle.pcep_word.specs.Address.{address_of}
use Rattle.http_views.specs.Words.{cut_at}

-- the part before the port
abbrev pub name_or : Option (List ℕ × List ℕ) → List ℕ → List ℕ
name_or None host = host
name_or (Some cut) host = cut.0

abbrev pub host_name : List ℕ → List ℕ
host_name host = name_or (cut_at 58 host) host

-- the case of a host doesn't matter (RFC 3986 section 3.2.2)
abbrev pub is_localhost : List ℕ → Bool
is_localhost name = bytes_eq (map to_ascii_lowercase name) (codes "localhost")

abbrev pub is_same_name : List ℕ → List ℕ → Bool
is_same_name own name = bytes_eq (map to_ascii_lowercase name) (map to_ascii_lowercase own)

-- the name that this server was given, if it isn't empty
abbrev pub is_this_name : List ℕ → List ℕ → Bool
is_this_name own name = not (length own == 0) && is_same_name own name

-- `localhost`, an address of IPv4, or the name that this server was given
abbrev pub is_own_name : List ℕ → List ℕ → Bool
is_own_name own name = (is_localhost name || is_some (address_of name)) || is_this_name own name

-- it is an IPv6 address: it begins with `[`, and `http_server` refuses any other text in brackets
abbrev pub is_bracketed : List ℕ → Bool
is_bracketed host = slice_index host 0 == 91

abbrev pub is_own_host : List ℕ → List ℕ → Bool
is_own_host own host = is_bracketed host || is_own_name own (host_name host)

abbrev pub is_own_value : List ℕ → FieldValue → Bool
is_own_value own value = is_visible_text value.bytes && is_own_host own value.bytes

-- the first Host of a request (RFC 9112 section 3.2), which has one
abbrev pub is_own_first : List ℕ → Option FieldValue → Bool
is_own_first own None = false
is_own_first own (Some value) = is_own_value own value

-- the host in a target of absolute form counts, whatever Host says (RFC 9112 section 3.2.2)
abbrev pub is_own_of : List ℕ → Option (List ℕ) → Entries FieldValue → Bool
is_own_of own None headers = is_own_first own (get headers (codes "host"))
is_own_of own (Some host) headers = is_own_host own host

abbrev pub is_own : List ℕ → Uri → Entries FieldValue → Bool
is_own own target headers = is_own_of own (option_map authority_host (uri_authority target)) headers
