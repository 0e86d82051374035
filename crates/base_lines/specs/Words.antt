-- The line of each item of a base. Each word ends in a space; numbers are decimal, addresses dotted, names and messages
-- hexadecimal, and `-` stands for what is missing.
use Rattle.std.specs.Prelude.{ℕ, Bool, List, [], ◌∷◌, codes, if◌then◌else◌}
use Rattle.lsp_words.specs.declared.object.Capabilities.{Capabilities}
use Rattle.pcep_word.specs.Priority.{InForce}
use Rattle.pcep_messages.specs.Spelling.{written}
use Rattle.te_base.specs.Values.{Values}
use Rattle.lsp_base.specs.declared.lsp.Constraints.{Constraints}
use Rattle.lsp_base.specs.declared.lsp.Lsp.{Lsp}
use Rattle.lsp_base.specs.declared.path.Path.{Path}
use Rattle.lsp_base.specs.declared.effect.Record.{Record}
use Rattle.lsp_base.specs.declared.tunnel.Part.{Part}
use Rattle.lsp_base.specs.declared.tunnel.Part.TheVariants as part
use Rattle.lsp_base.specs.declared.tunnel.Tunnel.{Tunnel}
use Rattle.lsp_base.specs.declared.tunnel.Tunnel.TheVariants as tunnel
use Rattle.commit_core.specs.declared.ticket.Purpose.{Purpose}
use Rattle.commit_core.specs.declared.ticket.Purpose.TheVariants as purpose
use Rattle.commit_core.specs.declared.ticket.Ticket.{Ticket}
use Rattle.step_core.specs.declared.names.AwaitedName.{AwaitedName}
use Rattle.step_core.specs.declared.peer.Peer.{Peer}
use Rattle.line_words.specs.Joined.{◌+>◌}
use Rattle.line_words.specs.Written.{number_word, address_word, hex_word, or_dash}
use Rattle.step_lines.specs.Events.{metric_word, colour_words, path_text}
use Rattle.base_lines.specs.declared.item.Counts.{Counts}
use Rattle.base_lines.specs.declared.item.Item.{Item}
use Rattle.base_lines.specs.declared.item.Item.TheVariants as item

-- ---- words

-- one of two words
abbrev pub flag_word : (on off : List ℕ) → Bool → List ℕ
flag_word on off flag = (if flag then on else off) +> codes " "

-- a name; `-` if it is empty
abbrev pub name_word : List ℕ → List ℕ
name_word [] = codes "- "
name_word (byte ∷ bytes) = hex_word (byte ∷ bytes)

-- link numbers joined by commas; `-` if there are none
abbrev pub links_word : List ℕ → List ℕ
links_word [] = codes "- "
links_word (link ∷ links) = path_text (link ∷ links) +> codes " "

abbrev pub priority_words : InForce → List ℕ
priority_words p = number_word p.setup +> number_word p.hold

abbrev pub part_words : Part → List ℕ
part_words (part.Reported lsp) = codes "lsp " +> number_word lsp
part_words (part.Granted srp) = codes "srp " +> number_word srp

abbrev pub tunnel_words : Tunnel → List ℕ
tunnel_words (tunnel.Signalled peer endpoint number extended) = codes "signalled " +> address_word peer +> address_word endpoint +> number_word number +> number_word extended
tunnel_words (tunnel.Unsignalled peer plsp) = codes "unsignalled " +> address_word peer +> number_word plsp
tunnel_words (tunnel.Asked peer srp) = codes "asked " +> address_word peer +> number_word srp

-- ---- what is asked of a path

abbrev pub end_words : Constraints → List ℕ
end_words c = or_dash address_word c.source +> or_dash address_word c.destination

abbrev pub bound_words : Constraints → List ℕ
bound_words c =
    or_dash number_word c.bound +> or_dash number_word c.hop_bound +> or_dash number_word (c.other_bounds).igp +> or_dash number_word (c.other_bounds).te

abbrev pub share_words : Constraints → List ℕ
share_words c = number_word c.bandwidth +> priority_words c.priorities +> colour_words c.colours

abbrev pub aim_words : Constraints → List ℕ
aim_words c = metric_word c.minimise +> bound_words c +> flag_word (codes "protect") (codes "-") c.local_protection

unfoldable pub constraint_words : Constraints → List ℕ
constraint_words c = end_words c +> share_words c +> aim_words c

abbrev pub purpose_words : Purpose → List ℕ
purpose_words (purpose.Update plsp) = codes "update " +> number_word plsp
purpose_words (purpose.Initiate name c) = codes "initiate " +> hex_word name +> constraint_words c
purpose_words (purpose.Answer request plsp c) = codes "answer " +> number_word request +> or_dash number_word plsp +> constraint_words c

-- ---- items

abbrev pub count_words : Counts → List ℕ
count_words c = number_word c.steps +> number_word c.grants +> number_word c.changes +> number_word c.last_session +> number_word c.last_ticket

abbrev pub value_words : Values → List ℕ
value_words v = number_word v.igp +> number_word v.te +> number_word v.colour +> number_word v.reservable

abbrev pub capability_words : Capabilities → List ℕ
capability_words c = flag_word (codes "update") (codes "-") c.update +> flag_word (codes "initiate") (codes "-") c.create

-- what waits for the peer has lines of its own
abbrev pub peer_words : Peer → List ℕ
peer_words p =
    address_word p.number +> flag_word (codes "up") (codes "down") p.up +> number_word p.session +> capability_words p.capabilities +> flag_word (codes "syncing") (codes "synced") p.syncing +> number_word p.last_srp

-- which path it is, and what it reserves
abbrev pub place_words : Path → List ℕ
place_words p = address_word p.peer +> number_word p.plsp +> part_words p.part +> tunnel_words p.tunnel

abbrev pub reserved_words : Path → List ℕ
reserved_words p = number_word p.hold +> number_word p.bandwidth +> flag_word (codes "fresh") (codes "stale") p.fresh +> links_word p.links

abbrev pub path_words : Path → List ℕ
path_words p = place_words p +> reserved_words p

abbrev pub lsp_words : Lsp → List ℕ
lsp_words l =
    name_word l.name +> flag_word (codes "delegated") (codes "-") l.delegated +> flag_word (codes "created") (codes "-") l.created +> or_dash number_word l.removing +> tunnel_words l.tunnel +> constraint_words l.constraints

abbrev pub record_words : Record → List ℕ
record_words r = address_word r.peer +> number_word r.plsp +> lsp_words r.lsp

abbrev pub awaited_words : AwaitedName → List ℕ
awaited_words a = address_word a.peer +> number_word a.srp +> hex_word a.name

-- whose ticket it is, and how often it was taken
abbrev pub turn_words : Ticket → List ℕ
turn_words t = number_word t.id +> address_word t.peer +> number_word t.session +> number_word t.tries +> number_word t.seen +> flag_word (codes "taken") (codes "waits") t.taken

abbrev pub ticket_words : Ticket → List ℕ
ticket_words t = turn_words t +> purpose_words t.purpose +> constraint_words t.constraints

unfoldable pub line_of : Item → List ℕ
line_of (item.Counts c) = codes "base " +> count_words c
line_of (item.Value v) = codes "value " +> value_words v
line_of (item.Peer p) = codes "peer " +> peer_words p
line_of (item.Waits message) = codes "waits " +> hex_word (written message)
line_of (item.Path p) = codes "path " +> path_words p
line_of (item.Record r) = codes "record " +> record_words r
line_of (item.Name a) = codes "name " +> awaited_words a
line_of (item.Ticket t) = codes "ticket " +> ticket_words t
line_of item.End = codes "end"
