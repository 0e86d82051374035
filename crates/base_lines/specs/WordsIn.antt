-- The item that a line stands for.
use Rattle.std.specs.Prelude.{ℕ, Bool, true, false, List, [], length, codes, Option, Some, None, option_map, nat_le, Result, Ok, Err, if◌then◌else◌}
use Rattle.std.specs.Str.{bytes_eq}
use Rattle.lsp_words.specs.declared.object.Capabilities.{Capabilities}
use Rattle.pcep_messages.specs.Messages.{message_in}
use Rattle.pcep_messages.specs.Spelling.{is_written}
use Rattle.pcep_messages.specs.declared.fault.MessageFault.{MessageFault}
use Rattle.pcep_messages.specs.declared.message.Message.{Message}
use Rattle.lsp_base.specs.declared.lsp.Constraints.{Constraints}
use Rattle.lsp_base.specs.declared.lsp.Lsp.{Lsp}
use Rattle.lsp_base.specs.declared.tunnel.Part.{Part}
use Rattle.lsp_base.specs.declared.tunnel.Part.TheVariants as part
use Rattle.lsp_base.specs.declared.tunnel.Tunnel.{Tunnel}
use Rattle.lsp_base.specs.declared.tunnel.Tunnel.TheVariants as tunnel
use Rattle.commit_core.specs.Names.{name_of}
use Rattle.commit_core.specs.declared.ticket.Purpose.{Purpose}
use Rattle.commit_core.specs.declared.ticket.Purpose.TheVariants as purpose
use Rattle.asks.specs.Words.{cut_at_space, number_of_bits}
use Rattle.line_words.specs.Words.{bytes_in}
use Rattle.line_words.specs.First.{◌>>=◌, is_nothing, first, first_number, first_long_number, first_plsp, first_address, first_bytes, first_number_or_missing, first_long_or_missing, first_plsp_or_missing, first_address_or_missing}
use Rattle.step_lines.specs.EventReading.{links_in, first_values, first_metric, first_colours, first_bandwidth, first_priority, first_priorities}
use Rattle.step_lines.specs.Lines.{line_limit}
use Rattle.base_lines.specs.declared.item.Item.{Item}
use Rattle.base_lines.specs.declared.item.Item.TheVariants as item

-- ---- words

-- one of two words
abbrev pub flag_in : (on off : List ℕ) → List ℕ → Option Bool
flag_in on off word = if bytes_eq word on then Some true else if bytes_eq word off then Some false else None

unfoldable pub first_flag : (on off : List ℕ) → List ℕ → Option (Bool × List ℕ)
first_flag on off text = first (flag_in on off) text

-- a number below 2^16
unfoldable pub first_short_number : List ℕ → Option (ℕ × List ℕ)
first_short_number text = first (number_of_bits 16) text

-- `-` stands for an empty list
abbrev pub or_empty : (List ℕ → Option (List ℕ)) → List ℕ → Option (List ℕ)
or_empty read word = if bytes_eq word (codes "-") then Some [] else read word

-- bytes in hexadecimal; `-` if there are none
unfoldable pub first_name : List ℕ → Option (List ℕ × List ℕ)
first_name text = first (or_empty bytes_in) text

unfoldable pub first_links : List ℕ → Option (List ℕ × List ℕ)
first_links text = first (or_empty links_in) text

unfoldable pub part_with : List ℕ → List ℕ → Option (Part × List ℕ)
part_with word rest =
    if bytes_eq word (codes "lsp") then option_map (λ lsp. (part.Reported lsp.0, lsp.1)) (first_short_number rest)
    else if bytes_eq word (codes "srp") then option_map (λ srp. (part.Granted srp.0, srp.1)) (first_number rest)
    else None

unfoldable pub first_part : List ℕ → Option (Part × List ℕ)
first_part text = do
  words ← cut_at_space text
  part_with words.0 words.1

unfoldable pub signalled_in : List ℕ → Option (Tunnel × List ℕ)
signalled_in text = do
  peer ← first_address text
  endpoint ← first_address peer.1
  number ← first_short_number endpoint.1
  extended ← first_number number.1
  Some (tunnel.Signalled peer.0 endpoint.0 number.0 extended.0, extended.1)

unfoldable pub unsignalled_in : List ℕ → Option (Tunnel × List ℕ)
unsignalled_in text = do
  peer ← first_address text
  plsp ← first_plsp peer.1
  Some (tunnel.Unsignalled peer.0 plsp.0, plsp.1)

unfoldable pub asked_in : List ℕ → Option (Tunnel × List ℕ)
asked_in text = do
  peer ← first_address text
  srp ← first_number peer.1
  Some (tunnel.Asked peer.0 srp.0, srp.1)

unfoldable pub tunnel_with : List ℕ → List ℕ → Option (Tunnel × List ℕ)
tunnel_with word rest =
    if bytes_eq word (codes "signalled") then signalled_in rest
    else if bytes_eq word (codes "unsignalled") then unsignalled_in rest
    else if bytes_eq word (codes "asked") then asked_in rest
    else None

unfoldable pub first_tunnel : List ℕ → Option (Tunnel × List ℕ)
first_tunnel text = do
  words ← cut_at_space text
  tunnel_with words.0 words.1

-- ---- what is asked of a path

unfoldable pub first_constraints : List ℕ → Option (Constraints × List ℕ)
first_constraints text = do
  source ← first_address_or_missing text
  destination ← first_address_or_missing source.1
  bandwidth ← first_bandwidth destination.1
  priorities ← first_priorities bandwidth.1
  colours ← first_colours priorities.1
  minimise ← first_metric colours.1
  bound ← first_long_or_missing minimise.1
  hops ← first_long_or_missing bound.1
  igp ← first_long_or_missing hops.1
  te ← first_long_or_missing igp.1
  protection ← first_flag (codes "protect") (codes "-") te.1
  Some (
    record {
      source = source.0;
      destination = destination.0;
      bandwidth = bandwidth.0;
      priorities = priorities.0;
      colours = colours.0;
      minimise = minimise.0;
      bound = bound.0;
      hop_bound = hops.0;
      other_bounds = record { igp = igp.0; te = te.0 };
      local_protection = protection.0;
    },
    protection.1,
  )

unfoldable pub update_in : List ℕ → Option (Purpose × List ℕ)
update_in text = do
  plsp ← first_plsp text
  Some (purpose.Update plsp.0, plsp.1)

unfoldable pub initiate_in : List ℕ → Option (Purpose × List ℕ)
initiate_in text = do
  bytes ← first_bytes text
  constraints ← first_constraints bytes.1
  name ← name_of bytes.0
  Some (purpose.Initiate name constraints.0, constraints.1)

unfoldable pub answer_in : List ℕ → Option (Purpose × List ℕ)
answer_in text = do
  request ← first_number text
  plsp ← first_plsp_or_missing request.1
  constraints ← first_constraints plsp.1
  Some (purpose.Answer request.0 plsp.0 constraints.0, constraints.1)

unfoldable pub purpose_with : List ℕ → List ℕ → Option (Purpose × List ℕ)
purpose_with word rest =
    if bytes_eq word (codes "update") then update_in rest
    else if bytes_eq word (codes "initiate") then initiate_in rest
    else if bytes_eq word (codes "answer") then answer_in rest
    else None

unfoldable pub first_purpose : List ℕ → Option (Purpose × List ℕ)
first_purpose text = do
  words ← cut_at_space text
  purpose_with words.0 words.1

-- ---- items, each with what follows it in its line

unfoldable pub counts_in : List ℕ → Option (Item × List ℕ)
counts_in text = do
  steps ← first_long_number text
  grants ← first_long_number steps.1
  changes ← first_long_number grants.1
  session ← first_long_number changes.1
  ticket ← first_long_number session.1
  Some (item.Counts (record { steps = steps.0; grants = grants.0; changes = changes.0; last_session = session.0; last_ticket = ticket.0 }), ticket.1)

unfoldable pub value_in : List ℕ → Option (Item × List ℕ)
value_in text = do
  values ← first_values text
  Some (item.Value values.0, values.1)

unfoldable pub first_capabilities : List ℕ → Option (Capabilities × List ℕ)
first_capabilities text = do
  update ← first_flag (codes "update") (codes "-") text
  create ← first_flag (codes "initiate") (codes "-") update.1
  Some (record { update = update.0; create = create.0 }, create.1)

unfoldable pub peer_in : List ℕ → Option (Item × List ℕ)
peer_in text = do
  number ← first_address text
  up ← first_flag (codes "up") (codes "down") number.1
  session ← first_long_number up.1
  capabilities ← first_capabilities session.1
  syncing ← first_flag (codes "syncing") (codes "synced") capabilities.1
  srp ← first_number syncing.1
  Some (item.Peer (record { number = number.0; up = up.0; session = session.0; capabilities = capabilities.0; syncing = syncing.0; last_srp = srp.0; outgoing = [] }), srp.1)

-- the message that was read, if it is of a kind that is written
abbrev pub read_well : Result Message MessageFault → Option Message
read_well (Ok message) = if is_written message then Some message else None
read_well (Err fault) = None

unfoldable pub waits_in : List ℕ → Option (Item × List ℕ)
waits_in text = do
  bytes ← first_bytes text
  message ← read_well (message_in bytes.0)
  Some (item.Waits message, bytes.1)

unfoldable pub path_in : List ℕ → Option (Item × List ℕ)
path_in text = do
  peer ← first_address text
  plsp ← first_plsp peer.1
  part ← first_part plsp.1
  tunnel ← first_tunnel part.1
  hold ← first_priority tunnel.1
  bandwidth ← first_bandwidth hold.1
  fresh ← first_flag (codes "fresh") (codes "stale") bandwidth.1
  links ← first_links fresh.1
  Some (item.Path (record { peer = peer.0; plsp = plsp.0; part = part.0; tunnel = tunnel.0; hold = hold.0; bandwidth = bandwidth.0; links = links.0; fresh = fresh.0 }), links.1)

unfoldable pub first_lsp : List ℕ → Option (Lsp × List ℕ)
first_lsp text = do
  name ← first_name text
  delegated ← first_flag (codes "delegated") (codes "-") name.1
  created ← first_flag (codes "created") (codes "-") delegated.1
  removing ← first_number_or_missing created.1
  tunnel ← first_tunnel removing.1
  constraints ← first_constraints tunnel.1
  Some (record { name = name.0; delegated = delegated.0; created = created.0; constraints = constraints.0; tunnel = tunnel.0; removing = removing.0 }, constraints.1)

unfoldable pub record_in : List ℕ → Option (Item × List ℕ)
record_in text = do
  peer ← first_address text
  plsp ← first_plsp peer.1
  lsp ← first_lsp plsp.1
  Some (item.Record (record { peer = peer.0; plsp = plsp.0; lsp = lsp.0 }), lsp.1)

unfoldable pub name_in : List ℕ → Option (Item × List ℕ)
name_in text = do
  peer ← first_address text
  srp ← first_number peer.1
  bytes ← first_bytes srp.1
  name ← name_of bytes.0
  Some (item.Name (record { peer = peer.0; srp = srp.0; name = name }), bytes.1)

unfoldable pub ticket_in : List ℕ → Option (Item × List ℕ)
ticket_in text = do
  id ← first_long_number text
  peer ← first_address id.1
  session ← first_long_number peer.1
  tries ← first_number session.1
  seen ← first_long_number tries.1
  taken ← first_flag (codes "taken") (codes "waits") seen.1
  purpose ← first_purpose taken.1
  constraints ← first_constraints purpose.1
  Some (item.Ticket (record { id = id.0; peer = peer.0; session = session.0; purpose = purpose.0; constraints = constraints.0; tries = tries.0; seen = seen.0; taken = taken.0 }), constraints.1)

unfoldable pub item_with : List ℕ → List ℕ → Option (Item × List ℕ)
item_with word rest =
    if bytes_eq word (codes "path") then path_in rest
    else if bytes_eq word (codes "record") then record_in rest
    else if bytes_eq word (codes "waits") then waits_in rest
    else if bytes_eq word (codes "ticket") then ticket_in rest
    else if bytes_eq word (codes "value") then value_in rest
    else if bytes_eq word (codes "peer") then peer_in rest
    else if bytes_eq word (codes "name") then name_in rest
    else if bytes_eq word (codes "base") then counts_in rest
    else None

-- an item, and nothing after it
unfoldable pub worded_item : List ℕ → Option Item
worded_item line = do
  words ← cut_at_space line
  read ← item_with words.0 words.1
  if is_nothing read.1 then Some read.0 else None

-- None for a bad line
unfoldable pub item_in : List ℕ → Option Item
item_in line =
    if nat_le (length line) line_limit
    then (if bytes_eq line (codes "end") then Some item.End else worded_item line)
    else None
