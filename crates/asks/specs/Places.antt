-- Which word of an operator's line can't be read.
use Rattle.std.specs.Prelude.{ℕ, Bool, List, [], ◌∷◌, codes, is_some, unwrap_or, Option, Some, None, if◌then◌else◌}
use Rattle.std.specs.List.{list_any}
use Rattle.std.specs.Str.{bytes_eq}
use Rattle.pcep_word.specs.Address.{address_of}
use Rattle.asks.specs.Lines.{◌>>=◌}
use Rattle.asks.specs.Rates.{bandwidth_or_rate_in}
use Rattle.asks.specs.Words.{cut_at_space, peer_in}

-- a line with this first word asks for a path to set an LSP up
abbrev pub is_request : List ℕ → Bool
is_request word = list_any (bytes_eq word) (codes "initiate" ∷ codes "place" ∷ [])

-- a line with this first word has a peer as its second
abbrev pub names_peer : List ℕ → Bool
names_peer word = list_any (bytes_eq word)
    (codes "update" ∷ codes "return" ∷ codes "delete" ∷ codes "drop" ∷ codes "lsps" ∷ codes "lsp" ∷ codes "why" ∷ codes "better" ∷ codes "grants" ∷ codes "tunnels" ∷ [])

abbrev pub behind_json : Option (List ℕ × List ℕ) → Option (List ℕ)
behind_json None = None
behind_json (Some cut) = if bytes_eq cut.0 (codes "json") then Some cut.1 else None

-- what comes after the word `json`
abbrev pub question_in : List ℕ → Option (List ℕ)
question_in line = behind_json (cut_at_space line)

abbrev pub first_of : List ℕ → Option (List ℕ × List ℕ) → List ℕ
first_of line None = line
first_of line (Some cut) = cut.0

abbrev pub first_word : List ℕ → List ℕ
first_word line = first_of line (cut_at_space line)

abbrev pub asked : List ℕ → List ℕ
asked line = unwrap_or (question_in line) line

-- what follows a peer and a name
unfoldable pub behind_name : List ℕ → Option (List ℕ)
behind_name line = do
  peer ← cut_at_space line
  name ← cut_at_space peer.1
  Some name.1

abbrev pub ends_behind : List ℕ → List ℕ → Option (List ℕ)
ends_behind word rest = if bytes_eq word (codes "path") then Some rest else if is_request word then behind_name rest else None

-- the words of a line that begin with the ends of a path
unfoldable pub ends_words : List ℕ → Option (List ℕ)
ends_words line = do
  cut ← cut_at_space line
  ends_behind cut.0 cut.1

abbrev pub of_address : List ℕ → Option (List ℕ)
of_address word = if is_some (address_of word) then None else Some word

abbrev pub of_peer : List ℕ → Option (List ℕ)
of_peer word = if is_some (peer_in word) then None else Some word

abbrev pub peer_behind : List ℕ → List ℕ → Option (List ℕ)
peer_behind word rest = if is_request word then of_peer (first_word rest) else if names_peer word then of_peer (first_word rest) else None

-- the words for the peer, the beginning and the end of a line's path that aren't read as they stand
unfoldable pub wrong_peer_in : List ℕ → Option (List ℕ)
wrong_peer_in line = do
  cut ← cut_at_space (asked line)
  peer_behind cut.0 cut.1

unfoldable pub wrong_from_in : List ℕ → Option (List ℕ)
wrong_from_in line = do
  words ← ends_words (asked line)
  of_address (first_word words)

unfoldable pub wrong_to_in : List ℕ → Option (List ℕ)
wrong_to_in line = do
  words ← ends_words (asked line)
  cut ← cut_at_space words
  of_address (first_word cut.1)

abbrev pub of_rate : List ℕ → Option (List ℕ)
of_rate word = if is_some (bandwidth_or_rate_in word) then None else Some word

-- the word of a bandwidth that is none
unfoldable pub wrong_rate_in : List ℕ → Option (List ℕ)
wrong_rate_in line = do
  words ← ends_words (asked line)
  from ← cut_at_space words
  to ← cut_at_space from.1
  of_rate (first_word to.1)

-- what follows `FROM TO BW SETUP HOLD`
unfoldable pub keys_of_line : List ℕ → Option (List ℕ)
keys_of_line line = do
  words ← ends_words (asked line)
  from ← cut_at_space words
  to ← cut_at_space from.1
  rate ← cut_at_space to.1
  setup ← cut_at_space rate.1
  hold ← cut_at_space setup.1
  Some hold.1
