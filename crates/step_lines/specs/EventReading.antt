-- The event that words stand for. Words that are written otherwise may read as the same: a line is compared with what its
-- step is written as.
use Rattle.std.specs.Prelude.{ℕ, ◌==◌, Bool, true, false, List, [], ◌∷◌, codes, Option, Some, None, option_map, is_some, Result, Ok, if◌then◌else◌}
use Rattle.std.specs.List.{list_all, filter_map, slice_split}
use Rattle.std.specs.Str.{bytes_eq}
use Rattle.pcep_word.specs.Priority.{InForce, in_force}
use Rattle.lsp_words.specs.declared.object.Capabilities.{Capabilities}
use Rattle.lsp_words.specs.declared.object.Colours.{Colours}
use Rattle.lsp_words.specs.declared.object.MetricType.{MetricType}
use Rattle.lsp_words.specs.declared.object.MetricType.TheVariants.{Igp, Te, Hops}
use Rattle.pcep_messages.specs.Messages.{message_in}
use Rattle.pcep_messages.specs.declared.fault.MessageFault.{MessageFault}
use Rattle.pcep_messages.specs.declared.message.Message.{Message}
use Rattle.pcep_messages.specs.declared.message.Message.TheVariants as messages
use Rattle.pcep_messages.specs.declared.message.PathRequest.{PathRequest}
use Rattle.pcep_messages.specs.declared.message.StateReport.{StateReport}
use Rattle.te_base.specs.Values.{Values, checked_values}
use Rattle.link_reload.specs.declared.entry.LinkReload.{LinkReload}
use Rattle.commit_core.specs.Names.{name_of}
use Rattle.commit_core.specs.declared.ticket.Purpose.{Purpose}
use Rattle.commit_core.specs.declared.ticket.Purpose.TheVariants as purpose
use Rattle.step_core.specs.declared.event.Event.{Event}
use Rattle.step_core.specs.declared.event.Event.TheVariants as event
use Rattle.asks.specs.Words.{bandwidth_in, cut_at_space, long_number_in, priority_in}
use Rattle.asks.specs.declared.ask.PathLimits.{PathLimits}
use Rattle.asks.specs.declared.ask.PathWanted.{PathWanted}
use Rattle.step_lines.specs.Requests.{purpose_of}
use Rattle.step_lines.specs.Wanted.{bound_by}
use Rattle.line_words.specs.First.{◌>>=◌, is_nothing, first, first_number, first_long_number, first_plsp, first_address, first_bytes, first_long_or_missing}

-- a PLSP-ID, and nothing after it
unfoldable pub plsp_in : List ℕ → Option ℕ
plsp_in text = do
  plsp ← first_plsp text
  Some plsp.0

-- ---- what is asked of a path

abbrev pub metric_in : List ℕ → Option MetricType
metric_in word =
    if bytes_eq word (codes "te") then Some Te
    else if bytes_eq word (codes "igp") then Some Igp
    else if bytes_eq word (codes "hops") then Some Hops
    else None

unfoldable pub first_metric : List ℕ → Option (MetricType × List ℕ)
first_metric text = first metric_in text

unfoldable pub first_colours : List ℕ → Option (Colours × List ℕ)
first_colours text = do
  exclude ← first_number text
  any ← first_number exclude.1
  all ← first_number any.1
  Some (record { exclude_any = exclude.0; include_any = any.0; include_all = all.0 }, all.1)

unfoldable pub limits_in : List ℕ → Option PathLimits
limits_in text = do
  minimise ← first_metric text
  cost ← first_long_or_missing minimise.1
  hops ← first_long_or_missing cost.1
  colours ← first_colours hops.1
  Some (record { minimise = minimise.0; max_cost = cost.0; max_hops = hops.0; colours = colours.0 })

unfoldable pub first_bandwidth : List ℕ → Option (ℕ × List ℕ)
first_bandwidth text = first bandwidth_in text

unfoldable pub first_priority : List ℕ → Option (ℕ × List ℕ)
first_priority text = first priority_in text

unfoldable pub first_priorities : List ℕ → Option (InForce × List ℕ)
first_priorities text = do
  setup ← first_priority text
  hold ← first_priority setup.1
  Some (in_force setup.0 hold.0, hold.1)

unfoldable pub wanted_in : List ℕ → Option PathWanted
wanted_in text = do
  from ← first_address text
  to ← first_address from.1
  bandwidth ← first_bandwidth to.1
  priorities ← first_priorities bandwidth.1
  limits ← limits_in priorities.1
  Some (record { from = from.0; to = to.0; bandwidth = bandwidth.0; priorities = priorities.0; limits = limits })

-- ---- purposes

unfoldable pub initiate_in : List ℕ → Option Purpose
initiate_in text = do
  bytes ← first_bytes text
  wanted ← wanted_in bytes.1
  name ← name_of bytes.0
  Some (purpose.Initiate name (bound_by wanted))

-- the one request of a message
abbrev pub one_request : Result Message MessageFault → Option PathRequest
one_request (Ok (messages.Request (request ∷ []))) = Some request
one_request _ = None

unfoldable pub answer_in : List ℕ → Option Purpose
answer_in text = do
  bytes ← first_bytes text
  request ← one_request (message_in bytes.0)
  Some (purpose_of request)

unfoldable pub purpose_with : List ℕ → List ℕ → Option Purpose
purpose_with word rest =
    if bytes_eq word (codes "update") then option_map purpose.Update (plsp_in rest)
    else if bytes_eq word (codes "initiate") then initiate_in rest
    else if bytes_eq word (codes "answer") then answer_in rest
    else None

unfoldable pub purpose_in : List ℕ → Option Purpose
purpose_in text = do
  words ← cut_at_space text
  purpose_with words.0 words.1

-- ---- links

-- the words between commas
abbrev pub parts : List ℕ → List (List ℕ)
parts text = slice_split (λ byte. byte == 44) text

abbrev pub is_link : List ℕ → Bool
is_link word = is_some (long_number_in word)

unfoldable pub links_in : List ℕ → Option (List ℕ)
links_in text =
    if is_nothing text then Some []
    else if list_all is_link (parts text) then Some (filter_map long_number_in (parts text))
    else None

unfoldable pub offer_in : List ℕ → Option (Option (List ℕ))
offer_in word = if bytes_eq word (codes "none") then Some None else option_map (λ links. Some links) (links_in word)

-- the texts between semicolons
abbrev pub pieces : List ℕ → List (List ℕ)
pieces text = slice_split (λ byte. byte == 59) text

unfoldable pub first_values : List ℕ → Option (Values × List ℕ)
first_values text = do
  igp ← first_long_number text
  te ← first_long_number igp.1
  colour ← first_long_number te.1
  reservable ← first_long_number colour.1
  values ← checked_values igp.0 te.0 colour.0 reservable.0
  Some (values, reservable.1)

unfoldable pub entry_at : List ℕ → Option LinkReload
entry_at text = do
  link ← first_long_number text
  values ← first_values link.1
  Some (record { link = link.0; values = values.0 })

-- an entry; after a semicolon it has a space in front
unfoldable pub entry_in : List ℕ → Option LinkReload
entry_in text = do
  words ← cut_at_space text
  if is_nothing words.0 then entry_at words.1 else entry_at text

abbrev pub is_entry : List ℕ → Bool
is_entry text = is_some (entry_in text)

unfoldable pub entries_in : List ℕ → Option (List LinkReload)
entries_in text =
    if is_nothing text then Some []
    else if list_all is_entry (pieces text) then Some (filter_map entry_in (pieces text))
    else None

-- ---- events

unfoldable pub capabilities_in : List ℕ → Option (Option Capabilities)
capabilities_in text =
    if bytes_eq text (codes "- ") then Some None
    else if bytes_eq text (codes "") then Some (Some (record { update = false; create = false }))
    else if bytes_eq text (codes "update ") then Some (Some (record { update = true; create = false }))
    else if bytes_eq text (codes "initiate ") then Some (Some (record { update = false; create = true }))
    else if bytes_eq text (codes "update initiate ") then Some (Some (record { update = true; create = true }))
    else None

unfoldable pub up_in : List ℕ → Option Event
up_in text = do
  peer ← first_address text
  sent ← capabilities_in peer.1
  Some (event.Up peer.0 sent)

-- the one report of a message
abbrev pub one_report : Result Message MessageFault → Option StateReport
one_report (Ok (messages.Report (report ∷ []))) = Some report
one_report _ = None

unfoldable pub report_in : List ℕ → Option Event
report_in text = do
  peer ← first_address text
  bytes ← first_bytes peer.1
  report ← one_report (message_in bytes.0)
  Some (event.Report peer.0 report)

unfoldable pub ask_in : List ℕ → Option Event
ask_in text = do
  peer ← first_address text
  purpose ← purpose_in peer.1
  Some (event.Ask peer.0 purpose)

unfoldable pub commit_in : List ℕ → Option Event
commit_in text = do
  ticket ← first_long_number text
  words ← cut_at_space ticket.1
  offer ← offer_in words.0
  Some (event.Commit ticket.0 offer)

unfoldable pub refused_in : List ℕ → Option Event
refused_in text = do
  peer ← first_address text
  srp ← first_number peer.1
  Some (event.Refused peer.0 srp.0)

-- a peer, and a PLSP-ID of its own
unfoldable pub lsp_in : List ℕ → Option (ℕ × ℕ)
lsp_in text = do
  peer ← first_address text
  plsp ← plsp_in peer.1
  Some (peer.0, plsp)

unfoldable pub reload_in : List ℕ → Option Event
reload_in text = do
  entries ← entries_in text
  Some (event.Reload entries)

-- an event of a peer and nothing more
unfoldable pub of_peer : (ℕ → Event) → List ℕ → Option Event
of_peer event text = do
  peer ← first_address text
  Some (event peer.0)

-- an event of an LSP
unfoldable pub of_lsp : (ℕ → ℕ → Event) → List ℕ → Option Event
of_lsp event text = do
  lsp ← lsp_in text
  Some (event lsp.0 lsp.1)

-- the events of which there are fewer
unfoldable pub rare_event_with : List ℕ → List ℕ → Option Event
rare_event_with word rest =
    if bytes_eq word (codes "down") then of_peer event.Down rest
    else if bytes_eq word (codes "expire") then of_peer event.Expire rest
    else if bytes_eq word (codes "refused") then refused_in rest
    else if bytes_eq word (codes "return") then of_lsp event.Return rest
    else if bytes_eq word (codes "delete") then of_lsp event.Delete rest
    else if bytes_eq word (codes "reload") then reload_in rest
    else None

unfoldable pub event_with : List ℕ → List ℕ → Option Event
event_with word rest =
    if bytes_eq word (codes "report") then report_in rest
    else if bytes_eq word (codes "drain") then of_peer event.Drain rest
    else if bytes_eq word (codes "ask") then ask_in rest
    else if bytes_eq word (codes "take") then Some event.Take
    else if bytes_eq word (codes "commit") then commit_in rest
    else if bytes_eq word (codes "up") then up_in rest
    else if bytes_eq word (codes "marker") then of_peer event.Marker rest
    else rare_event_with word rest

unfoldable pub event_in : List ℕ → Option Event
event_in text = do
  words ← cut_at_space text
  event_with words.0 words.1
