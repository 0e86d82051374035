-- The lines of an operator, each of which names one event.
use Rattle.std.specs.Prelude.{ℕ, false, List, [], ◌∷◌, Option, Some, None, option_map, codes, if◌then◌else◌}
use Rattle.std.specs.Str.{bytes_eq}
use Rattle.step_core.specs.declared.event.Event.{Event}
use Rattle.step_core.specs.declared.event.Event.TheVariants.{Expire, Return, Ask, Delete, Commit, Refused, Reload}
use Rattle.link_reload.specs.declared.entry.LinkReload.{LinkReload}
use Rattle.te_base.specs.Values.{Values, checked_values}
use Rattle.commit_core.specs.declared.ticket.Purpose.TheVariants.{Update, Initiate}
use Rattle.lsp_base.specs.declared.lsp.Constraints.{Constraints}
use Rattle.history_core.specs.declared.fault.Fault.TheVariants.{OutOfMemory, HistoryFull}
use Rattle.script_lines.specs.declared.fault.CommandFault.{CommandFault}
use Rattle.script_lines.specs.declared.fault.CommandFault.TheVariants.{BadLine, Store}
use Rattle.asks.specs.Lines.{◌>>=◌, limited_path_in, lsp_in, path_in, rated_path_in}
use Rattle.asks.specs.Words.{cut_at_space, long_number_in, number_in, peer_in}
use Rattle.asks.specs.declared.ask.LspId.{LspId}
use Rattle.asks.specs.declared.ask.PathWanted.{PathWanted}
use Rattle.script_lines.specs.Words.{name_in, offer_in}

unfoldable pub expire_event : List ℕ → Option Event
expire_event line = do
  peer ← peer_in line
  Some (Expire peer)

-- an event about one LSP
abbrev pub lsp_event : (ℕ → ℕ → Event) → Option LspId → Option Event
lsp_event event None = None
lsp_event event (Some lsp) = Some (event lsp.peer lsp.plsp)

-- `N LINKS`
unfoldable pub commit_event : List ℕ → Option Event
commit_event line = do
  words ← cut_at_space line
  ticket ← long_number_in words.0
  offer ← offer_in words.1
  Some (Commit ticket offer)

-- what a path is asked for with; no metric is bounded but the one that is to be least
abbrev pub constraints_of : PathWanted → Constraints
constraints_of w = record {
  source = Some w.from;
  destination = Some w.to;
  bandwidth = w.bandwidth;
  priorities = w.priorities;
  colours = (w.limits).colours;
  minimise = (w.limits).minimise;
  bound = (w.limits).max_cost;
  hop_bound = (w.limits).max_hops;
  other_bounds = record { igp = None; te = None };
  local_protection = false;
}

-- `PEER NAME`, and what follows
unfoldable pub named_in : List ℕ → Option (ℕ × List ℕ × List ℕ)
named_in line = do
  words ← cut_at_space line
  peer ← peer_in words.0
  named ← cut_at_space words.1
  Some (peer, named.0, named.1)

abbrev pub named_event : ℕ → PathWanted → Option (List ℕ) → Option Event
named_event peer wanted None = None
named_event peer wanted (Some name) = Some (Ask peer (Initiate name (constraints_of wanted)))

-- a request for a path, to set an LSP of this name up
abbrev pub request_event : ℕ → List ℕ → Option PathWanted → Option Event
request_event peer name None = None
request_event peer name (Some wanted) = named_event peer wanted (name_in name)

-- `PEER NAME FROM TO BW SETUP HOLD`: a path of least TE metric; links of all colours may be taken, and nothing else binds it
unfoldable pub initiate_event : List ℕ → Option Event
initiate_event line = do
  named ← named_in line
  request_event named.0 named.1 (path_in named.2)

-- of a server's operator: BW may have a unit
unfoldable pub rated_event : List ℕ → Option Event
rated_event line = do
  named ← named_in line
  request_event named.0 named.1 (rated_path_in named.2)

-- `PEER NAME FROM TO BW SETUP HOLD [KEY=VALUE ..]`
unfoldable pub place_event : List ℕ → Option Event
place_event line = do
  named ← named_in line
  request_event named.0 named.1 (limited_path_in named.2)

-- `PEER SRP`: the peer's grant or deletion of this SRP-ID ends, as if the peer had refused it
unfoldable pub drop_event : List ℕ → Option Event
drop_event line = do
  words ← cut_at_space line
  peer ← peer_in words.0
  srp ← number_in words.1
  Some (Refused peer srp)

-- what an operator may ask of a script and of a server: `return PEER PLSP`, `update PEER PLSP`, `delete PEER PLSP` and
-- `initiate PEER NAME FROM TO BW SETUP HOLD`
unfoldable pub operator_event_with : List ℕ → List ℕ → Option Event
operator_event_with word rest =
    if bytes_eq word (codes "return") then lsp_event (λ peer plsp. Return peer plsp) (lsp_in rest)
    else if bytes_eq word (codes "update") then lsp_event (λ peer plsp. Ask peer (Update plsp)) (lsp_in rest)
    else if bytes_eq word (codes "delete") then lsp_event (λ peer plsp. Delete peer plsp) (lsp_in rest)
    else if bytes_eq word (codes "initiate") then initiate_event rest
    else None

-- what a server's operator may: also `drop PEER SRP` and `place PEER NAME FROM TO BW SETUP HOLD [KEY=VALUE ..]`, and a bandwidth may
-- have a unit
unfoldable pub server_event_with : List ℕ → List ℕ → Option Event
server_event_with word rest =
    if bytes_eq word (codes "drop") then drop_event rest
    else if bytes_eq word (codes "initiate") then rated_event rest
    else if bytes_eq word (codes "place") then place_event rest
    else operator_event_with word rest

-- `IGP TE COLOUR RESERVABLE`, each in the range that a link text gives it
unfoldable pub link_values_in : List ℕ → Option Values
link_values_in line = do
  metrics ← cut_at_space line
  igp ← long_number_in metrics.0
  rest ← cut_at_space metrics.1
  te ← long_number_in rest.0
  last ← cut_at_space rest.1
  colour ← long_number_in last.0
  reservable ← long_number_in last.1
  checked_values igp te colour reservable

-- `N IGP TE COLOUR RESERVABLE`: the number of a link, which need not exist, and its values
unfoldable pub link_reload_in : List ℕ → Option LinkReload
link_reload_in line = do
  words ← cut_at_space line
  link ← long_number_in words.0
  values ← link_values_in words.1
  Some (record { link = link; values = values })

unfoldable pub reload_event : List ℕ → Option Event
reload_event line = do
  entry ← link_reload_in line
  Some (Reload (entry ∷ []))

-- what a script may ask: also `expire PEER`, `commit N LINKS` and `reload N IGP TE COLOUR RESERVABLE`
unfoldable pub event_with : List ℕ → List ℕ → Option Event
event_with word rest =
    if bytes_eq word (codes "expire") then expire_event rest
    else if bytes_eq word (codes "commit") then commit_event rest
    else if bytes_eq word (codes "reload") then reload_event rest
    else operator_event_with word rest

-- the event of an operator's line; None for a bad line
unfoldable pub operator_event_in : List ℕ → Option Event
operator_event_in line = do
  words ← cut_at_space line
  server_event_with words.0 words.1

unfoldable pub event_in : List ℕ → Option Event
event_in line = do
  words ← cut_at_space line
  event_with words.0 words.1

-- ---- what a line asks of a store

pub data Command : Type 0 where
  Roll : Command
  Submit : Event → Command

-- the command of a line; None for a bad line
unfoldable pub command_in : List ℕ → Option Command
command_in line = if bytes_eq line (codes "roll") then Some Roll else option_map Submit (event_in line)

abbrev pub fault_number : CommandFault → ℕ
fault_number BadLine = 1
fault_number (Store fault) = 2

abbrev pub command_text : CommandFault → List ℕ
command_text BadLine = codes "bad line"
command_text (Store OutOfMemory) = codes "out of memory"
command_text (Store HistoryFull) = codes "history full"
