-- Names of nodes in an operator's line: the line that it stands for.
use Rattle.std.specs.Prelude.{ℕ, Bool, ◌||◌, List, ◌++◌, codes, is_some, Option, Some, None, if◌then◌else◌}
use Rattle.std.specs.Str.{bytes_eq}
use Rattle.pcep_word.specs.Address.{address_of, text_of}
use Rattle.asks.specs.Places.{is_request, names_peer, question_in, wrong_from_in, wrong_peer_in, wrong_to_in}
use Rattle.asks.specs.Words.{cut_at_space, peer_in}
use Rattle.line_names.specs.declared.plain.Named.{Named}

-- ---- a word

abbrev pub address_or : List ℕ → Option ℕ → List ℕ
address_or word None = word
address_or word (Some address) = text_of address

-- A word that is read as it stands keeps its meaning. Any other is a name, and gives way to the address that it stands for.
abbrev pub plain_peer : Option ℕ → List ℕ → List ℕ
plain_peer named word = if is_some (peer_in word) then word else address_or word named

abbrev pub plain_address : Option ℕ → List ℕ → List ℕ
plain_address named word = if is_some (address_of word) then word else address_or word named

-- ---- a line

abbrev pub by_cut : (List ℕ → List ℕ) → (List ℕ → List ℕ) → List ℕ → Option (List ℕ × List ℕ) → List ℕ
by_cut first rest line None = first line
by_cut first rest line (Some cut) = first cut.0 ++ (codes " " ++ rest cut.1)

-- a line whose first word gives way by `first`, and what follows it by `rest`
abbrev pub by_words : (List ℕ → List ℕ) → (List ℕ → List ℕ) → List ℕ → List ℕ
by_words first rest line = by_cut first rest line (cut_at_space line)

abbrev pub same : List ℕ → List ℕ
same word = word

-- `TO BW ..`
abbrev pub plain_to : Named → List ℕ → List ℕ
plain_to named line = by_words (plain_address named.to) same line

-- `FROM TO BW ..`
abbrev pub plain_ends : Named → List ℕ → List ℕ
plain_ends named line = by_words (plain_address named.from) (plain_to named) line

-- `NAME FROM TO BW ..`
abbrev pub plain_named_path : Named → List ℕ → List ℕ
plain_named_path named line = by_words same (plain_ends named) line

-- `PEER NAME FROM TO BW ..`
abbrev pub plain_request : Named → List ℕ → List ℕ
plain_request named line = by_words (plain_peer named.peer) (plain_named_path named) line

-- `PEER ..`
abbrev pub plain_peer_first : Named → List ℕ → List ℕ
plain_peer_first named line = by_words (plain_peer named.peer) same line

-- what follows a line's first word
unfoldable pub plain_rest : Named → List ℕ → List ℕ → List ℕ
plain_rest named word rest =
    if bytes_eq word (codes "path") then plain_ends named rest
    else if is_request word then plain_request named rest
    else if names_peer word then plain_peer_first named rest
    else rest

abbrev pub plain_cut : Named → List ℕ → Option (List ℕ × List ℕ) → List ℕ
plain_cut named line None = line
plain_cut named line (Some cut) = cut.0 ++ (codes " " ++ plain_rest named cut.0 cut.1)

abbrev pub plain_words : Named → List ℕ → List ℕ
plain_words named line = plain_cut named line (cut_at_space line)

abbrev pub plain_behind : Named → List ℕ → Option (List ℕ) → List ℕ
plain_behind named line None = plain_words named line
plain_behind named line (Some rest) = codes "json " ++ plain_words named rest

-- the line that an operator's line stands for
unfoldable pub plain_line : Named → List ℕ → List ℕ
plain_line named line = plain_behind named line (question_in line)

-- a word of the line isn't read as it stands
abbrev pub has_names : List ℕ → Bool
has_names line = (is_some (wrong_peer_in line) || is_some (wrong_from_in line)) || is_some (wrong_to_in line)
