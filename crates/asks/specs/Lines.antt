-- What the words of a line ask to see.
use Rattle.std.specs.Prelude.{ℕ, Bool, true, false, List, [], ◌∷◌, Option, Some, None, option_map, option_and_then, codes, if◌then◌else◌}
use Rattle.std.specs.List.{list_any}
use Rattle.std.specs.Str.{bytes_eq}
use Rattle.pcep_word.specs.Address.{address_of}
use Rattle.pcep_word.specs.Priority.{InForce, in_force}
use Rattle.asks.specs.Limits.{limits_in, no_limits}
use Rattle.asks.specs.Rates.{bandwidth_or_rate_in}
use Rattle.asks.specs.Words.{bandwidth_in, cut_at_space, long_number_in, peer_in, plsp_in, priority_in}
use Rattle.asks.specs.declared.ask.Ask.{Ask}
use Rattle.asks.specs.declared.ask.Ask.TheVariants.{Status, Links, LinkLine, Link, Peers, Tickets, Lsps, Lsp, History, Why, Better, Without, Grants, Path, Tunnels}
use Rattle.asks.specs.declared.ask.LspId.{LspId}
use Rattle.asks.specs.declared.ask.PathLimits.{PathLimits}
use Rattle.asks.specs.declared.ask.PathWanted.{PathWanted}
use Rattle.asks.specs.declared.ask.PeerPage.{PeerPage}

infixl 10 ◌>>=◌
abbrev pub ◌>>=◌ : {A B : Type 0} → Option A → (A → Option B) → Option B
o >>= f = option_and_then f o

-- `PEER PLSP`
unfoldable pub lsp_in : List ℕ → Option LspId
lsp_in line = do
  words ← cut_at_space line
  peer ← peer_in words.0
  plsp ← plsp_in words.1
  Some (record { peer = peer; plsp = plsp })

-- `SETUP HOLD`: a holding priority that is worse than the setup priority counts as the setup priority
unfoldable pub priorities_in : List ℕ → Option InForce
priorities_in line = do
  words ← cut_at_space line
  setup ← priority_in words.0
  hold ← priority_in words.1
  Some (in_force setup hold)

-- a bandwidth, with a unit if it may have one
abbrev pub bandwidth_with : Bool → List ℕ → Option ℕ
bandwidth_with true word = bandwidth_or_rate_in word
bandwidth_with false word = bandwidth_in word

-- `FROM TO BW`, where BW may have a unit or not, and what follows
unfoldable pub ends_in : Bool → List ℕ → Option (ℕ × ℕ × ℕ × List ℕ)
ends_in has_units line = do
  first ← cut_at_space line
  from ← address_of first.0
  second ← cut_at_space first.1
  to ← address_of second.0
  flow ← cut_at_space second.1
  bandwidth ← bandwidth_with has_units flow.0
  Some (from, to, bandwidth, flow.1)

-- `FROM TO BW SETUP HOLD`, where BW may have a unit or not: nothing is limited
unfoldable pub path_with : Bool → List ℕ → Option PathWanted
path_with has_units line = do
  ends ← ends_in has_units line
  priorities ← priorities_in ends.3
  Some (record { from = ends.0; to = ends.1; bandwidth = ends.2; priorities = priorities; limits = no_limits })

abbrev pub limited_hold : ℕ → Option PathLimits → Option (ℕ × PathLimits)
limited_hold hold None = None
limited_hold hold (Some limits) = Some (hold, limits)

abbrev pub hold_of_words : List ℕ → Option (List ℕ × List ℕ) → Option (ℕ × PathLimits)
hold_of_words line None = option_and_then (λ hold. Some (hold, no_limits)) (priority_in line)
hold_of_words line (Some words) = option_and_then (λ hold. limited_hold hold (limits_in words.1)) (priority_in words.0)

-- `HOLD [KEY=VALUE ..]`
unfoldable pub hold_in : List ℕ → Option (ℕ × PathLimits)
hold_in line = hold_of_words line (cut_at_space line)

-- `SETUP HOLD [KEY=VALUE ..]`
unfoldable pub limited_priorities_in : List ℕ → Option (InForce × PathLimits)
limited_priorities_in line = do
  words ← cut_at_space line
  setup ← priority_in words.0
  rest ← hold_in words.1
  Some (in_force setup rest.0, rest.1)

-- of a script, and of a server's operator
abbrev pub path_in : List ℕ → Option PathWanted
path_in line = path_with false line

abbrev pub rated_path_in : List ℕ → Option PathWanted
rated_path_in line = path_with true line

-- `FROM TO BW SETUP HOLD [KEY=VALUE ..]`, where BW may have a unit
unfoldable pub limited_path_in : List ℕ → Option PathWanted
limited_path_in line = do
  ends ← ends_in true line
  rest ← limited_priorities_in ends.3
  Some (record { from = ends.0; to = ends.1; bandwidth = ends.2; priorities = rest.0; limits = rest.1 })

-- the first page of all peers, and of one
abbrev pub first_page : PeerPage
first_page = record { peer = None; from = 0 }

abbrev pub page_in : List ℕ → Option PeerPage
page_in word = option_map (λ peer. record { peer = Some peer; from = 0 }) (peer_in word)

-- a line of one word: `status`, `links`, `peers`, `lsps`, `tickets`, `better`, `grants` or `tunnels`
unfoldable pub ask_alone : List ℕ → Option Ask
ask_alone word =
    if bytes_eq word (codes "status") then Some Status
    else if bytes_eq word (codes "links") then Some Links
    else if bytes_eq word (codes "peers") then Some Peers
    else if bytes_eq word (codes "lsps") then Some (Lsps first_page)
    else if bytes_eq word (codes "tickets") then Some Tickets
    else if bytes_eq word (codes "better") then Some (Better first_page)
    else if bytes_eq word (codes "grants") then Some (Grants first_page)
    else if bytes_eq word (codes "tunnels") then Some (Tunnels first_page)
    else None

-- `lsps PEER`, `lsp PEER PLSP`, `link N`, `history N`, `path FROM TO BW SETUP HOLD [KEY=VALUE ..]`, `links N`, `why PEER PLSP`,
-- `better PEER`, `without N`, `grants PEER` and `tunnels PEER`
unfoldable pub ask_with : List ℕ → List ℕ → Option Ask
ask_with word rest =
    if bytes_eq word (codes "lsps") then option_map Lsps (page_in rest)
    else if bytes_eq word (codes "lsp") then option_map Lsp (lsp_in rest)
    else if bytes_eq word (codes "link") then option_map Link (long_number_in rest)
    else if bytes_eq word (codes "history") then option_map History (long_number_in rest)
    else if bytes_eq word (codes "path") then option_map Path (limited_path_in rest)
    else if bytes_eq word (codes "links") then option_map LinkLine (long_number_in rest)
    else if bytes_eq word (codes "why") then option_map Why (lsp_in rest)
    else if bytes_eq word (codes "better") then option_map Better (page_in rest)
    else if bytes_eq word (codes "without") then option_map Without (long_number_in rest)
    else if bytes_eq word (codes "grants") then option_map Grants (page_in rest)
    else if bytes_eq word (codes "tunnels") then option_map Tunnels (page_in rest)
    else None

abbrev pub ask_of_words : List ℕ → Option (List ℕ × List ℕ) → Option Ask
ask_of_words line None = ask_alone line
ask_of_words line (Some words) = ask_with words.0 words.1

-- what a line asks to see
unfoldable pub ask_in : List ℕ → Option Ask
ask_in line = ask_of_words line (cut_at_space line)

-- the first words of lines that ask to see something
abbrev pub question_words : List (List ℕ)
question_words =
    codes "status" ∷ codes "links" ∷ codes "link" ∷ codes "peers" ∷ codes "lsps" ∷ codes "lsp" ∷ codes "tickets" ∷ codes "history" ∷ codes "path" ∷ codes "why"
    ∷ codes "better" ∷ codes "without" ∷ codes "grants" ∷ codes "tunnels" ∷ []

abbrev pub is_question : List ℕ → Bool
is_question word = list_any (bytes_eq word) question_words
