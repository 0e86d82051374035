-- The line of an item reads as it.
use Rattle.std.proofs.Common.{◌≡◌, ℕ, ◌≤◌, true, List, [], ◌∷◌, ◌++◌, length, codes, Option, Some, nat_le, if◌then◌else◌, refl, sym, ap, ◌∙◌, append_assoc, rules, tests}
use Rattle.std.specs.Str.{bytes_eq}
use Rattle.std.proofs.lemmas.Bool.{and_parts}
use Rattle.std.proofs.lemmas.List.{append-nil}
use Rattle.pcep_messages.specs.Spelling.{is_written, fits, written}
use Rattle.pcep_messages.specs.declared.message.Message.{Message}
use Rattle.pcep_messages.proofs.MessageAgain as message_bytes
use Rattle.te_base.specs.Values.{Values}
use Rattle.lsp_base.specs.declared.lsp.Lsp.{Lsp}
use Rattle.lsp_base.specs.declared.path.Path.{Path}
use Rattle.lsp_base.specs.declared.effect.Record.{Record}
use Rattle.commit_core.specs.declared.ticket.Ticket.{Ticket}
use Rattle.step_core.specs.declared.names.AwaitedName.{AwaitedName}
use Rattle.step_core.specs.declared.peer.Peer.{Peer}
use Rattle.line_words.specs.Joined.{◌+>◌}
use Rattle.line_words.specs.Words.{IsWord as IsWholeWord}
use Rattle.line_words.specs.Written.{number_word, address_word, hex_word, or_dash}
use Rattle.line_words.proofs.Again.{ends}
use Rattle.line_words.proofs.FirstWords.{number_first, long_first, plsp_first, address_first, bytes_last, number_or_missing}
use Rattle.step_lines.specs.Lines.{line_limit}
use Rattle.step_lines.proofs.LinksAgain.{values_again}
use Rattle.step_lines.proofs.WantedAgain.{bandwidth_first, priority_first}
use Rattle.base_lines.specs.Normal.{AreCounts, AreValues, IsPeer, IsWaiting, IsPath, IsLsp, IsRecord, IsAwaited, IsTicket, IsItem, IsNormalItem}
use Rattle.base_lines.specs.Words.{flag_word, name_word, links_word, part_words, tunnel_words, constraint_words, capability_words, purpose_words, count_words, value_words, peer_words, path_words, lsp_words, record_words, awaited_words, ticket_words, line_of}
use Rattle.base_lines.specs.WordsIn.{counts_in, value_in, peer_in, waits_in, path_in, first_lsp, record_in, name_in, ticket_in, item_with, worded_item, item_in}
use Rattle.base_lines.specs.declared.item.Counts.{Counts}
use Rattle.base_lines.specs.declared.item.Item.{Item}
use Rattle.base_lines.specs.declared.item.Item.TheVariants as item
use Rattle.base_lines.proofs.WordsAgain.{flag, name_first, links_first, part_first, tunnel_first, constraints_first, capabilities_first, purpose_first}

counts_again : (c : Counts) → AreCounts c → counts_in (count_words c) ≡ Some (item.Counts c, [])
unfolding counts_in
counts_again c are =
    let ticket = number_word c.last_ticket +> [] in
    let session = number_word c.last_session +> ticket in
    let changes = number_word c.changes +> session in
    let grants = number_word c.grants +> changes in
    let spread : count_words c ≡ number_word c.steps +> grants = simp (append_assoc, append-nil) in
    ap counts_in spread
    ∙ rw (
      long_first c.steps grants are.steps,
      long_first c.grants changes are.grants,
      long_first c.changes session are.changes,
      long_first c.last_session ticket are.last_session,
      long_first c.last_ticket [] are.last_ticket,
    )
    refl

value_again : (v : Values) → AreValues v → value_in (value_words v) ≡ Some (item.Value v, [])
unfolding value_in
value_again v are =
    let spread : value_words v ≡ number_word v.igp +> number_word v.te +> number_word v.colour +> number_word v.reservable +> [] = simp (append_assoc, append-nil) in
    ap value_in spread ∙ rw (values_again v [] are.ranges are.colour) refl

peer_again : (p : Peer) → IsPeer p → peer_in (peer_words p) ≡ Some (item.Peer p, [])
unfolding peer_in
peer_again p is =
    let srp = number_word p.last_srp +> [] in
    let syncing = flag_word (codes "syncing") (codes "synced") p.syncing +> srp in
    let capabilities = capability_words p.capabilities +> syncing in
    let session = number_word p.session +> capabilities in
    let up = flag_word (codes "up") (codes "down") p.up +> session in
    let spread : peer_words p ≡ address_word p.number +> up = simp (append_assoc, append-nil) in
    let read : peer_in (address_word p.number +> up) ≡ Some (item.Peer (record p { outgoing = [] }), []) =
    rw (
      address_first p.number up is.number,
      flag (codes "up") (codes "down") p.up session refl refl refl refl,
      long_first p.session capabilities is.session,
      capabilities_first p.capabilities syncing,
      flag (codes "syncing") (codes "synced") p.syncing srp refl refl refl refl,
      number_first p.last_srp [] is.last_srp,
    )
    refl
    in
    ap peer_in spread ∙ read ∙ ap (λ (outgoing : List Message). Some (item.Peer (record p { outgoing = outgoing }), [])) (sym is.nothing)

waits_again : (message : Message) → IsWaiting message → waits_in (hex_word (written message)) ≡ Some (item.Waits message, [])
unfolding waits_in
waits_again message is =
    let parts = and_parts (is_written message) (fits message) is.has_line in
    rw (bytes_last (written message) is.bytes, message_bytes.again message parts.0 is.normal parts.1, parts.0) refl

path_again : (p : Path) → IsPath p → path_in (path_words p) ≡ Some (item.Path p, [])
unfolding path_in
path_again p is =
    let links = links_word p.links +> [] in
    let fresh = flag_word (codes "fresh") (codes "stale") p.fresh +> links in
    let bandwidth = number_word p.bandwidth +> fresh in
    let hold = number_word p.hold +> bandwidth in
    let tunnel = tunnel_words p.tunnel +> hold in
    let part = part_words p.part +> tunnel in
    let plsp = number_word p.plsp +> part in
    let spread : path_words p ≡ address_word p.peer +> plsp = simp (append_assoc, append-nil) in
    ap path_in spread
    ∙ rw (
      address_first p.peer plsp is.peer,
      plsp_first p.plsp part is.plsp,
      part_first p.part tunnel is.part,
      tunnel_first p.tunnel hold is.tunnel,
      priority_first p.hold bandwidth is.hold,
      bandwidth_first p.bandwidth fresh is.bandwidth,
      flag (codes "fresh") (codes "stale") p.fresh links refl refl refl refl,
      links_first p.links [] is.links,
    )
    refl

lsp_again : (l : Lsp) → IsLsp l → first_lsp (lsp_words l) ≡ Some (l, [])
unfolding first_lsp
lsp_again l is =
    let constraints = constraint_words l.constraints +> [] in
    let tunnel = tunnel_words l.tunnel +> constraints in
    let removing = or_dash number_word l.removing +> tunnel in
    let created = flag_word (codes "created") (codes "-") l.created +> removing in
    let delegated = flag_word (codes "delegated") (codes "-") l.delegated +> created in
    let spread : lsp_words l ≡ name_word l.name +> delegated = simp (append_assoc, append-nil) in
    ap first_lsp spread
    ∙ rw (
      name_first l.name delegated is.name,
      flag (codes "delegated") (codes "-") l.delegated created refl refl refl refl,
      flag (codes "created") (codes "-") l.created removing refl refl refl refl,
      number_or_missing l.removing tunnel is.removing,
      tunnel_first l.tunnel constraints is.tunnel,
      constraints_first l.constraints [] is.constraints,
    )
    refl

record_again : (r : Record) → IsRecord r → record_in (record_words r) ≡ Some (item.Record r, [])
unfolding record_in
record_again r is =
    rw (address_first r.peer (number_word r.plsp +> lsp_words r.lsp) is.peer, plsp_first r.plsp (lsp_words r.lsp) is.plsp, lsp_again r.lsp is.lsp) refl

name_again : (a : AwaitedName) → IsAwaited a → name_in (awaited_words a) ≡ Some (item.Name a, [])
unfolding name_in
name_again a is =
    rw (address_first a.peer (number_word a.srp +> hex_word a.name) is.peer, number_first a.srp (hex_word a.name) is.srp, bytes_last a.name is.name.1, is.name.0) refl

ticket_again : (t : Ticket) → IsTicket t → ticket_in (ticket_words t) ≡ Some (item.Ticket t, [])
unfolding ticket_in
ticket_again t is =
    let constraints = constraint_words t.constraints +> [] in
    let purpose = purpose_words t.purpose +> constraints in
    let taken = flag_word (codes "taken") (codes "waits") t.taken +> purpose in
    let seen = number_word t.seen +> taken in
    let tries = number_word t.tries +> seen in
    let session = number_word t.session +> tries in
    let peer = address_word t.peer +> session in
    let spread : ticket_words t ≡ number_word t.id +> peer = simp (append_assoc, append-nil) in
    ap ticket_in spread
    ∙ rw (
      long_first t.id peer is.id,
      address_first t.peer session is.peer,
      long_first t.session tries is.session,
      number_first t.tries seen is.tries,
      long_first t.seen taken is.seen,
      flag (codes "taken") (codes "waits") t.taken purpose refl refl refl refl,
      purpose_first t.purpose constraints is.purpose,
      constraints_first t.constraints [] is.constraints,
    )
    refl

-- ---- whole lines

worded : (word rest : List ℕ) (i : Item) → IsWholeWord word → item_with word rest ≡ Some (i, []) → worded_item (word ++ 32 ∷ rest) ≡ Some i
unfolding worded_item
worded word rest i is found = rw (ends word rest is, found) refl

-- the item of a line that isn't too long
abbrev read_whole : List ℕ → Option Item
read_whole line = if bytes_eq line (codes "end") then Some item.End else worded_item line

short_line : (line : List ℕ) → length line ≤ line_limit → item_in line ≡ read_whole line
unfolding item_in
short_line line small =
    let short : nat_le (length line) line_limit ≡ true = search (rules, tests, small) in
    rw short refl

read_again : (i : Item) → IsItem i → read_whole (line_of i) ≡ Some i
unfolding line_of item_with
read_again (item.Counts c) is = worded (codes "base") (count_words c) (item.Counts c) refl (counts_again c is)
read_again (item.Value v) is = worded (codes "value") (value_words v) (item.Value v) refl (value_again v is)
read_again (item.Peer p) is = worded (codes "peer") (peer_words p) (item.Peer p) refl (peer_again p is)
read_again (item.Waits message) is = worded (codes "waits") (hex_word (written message)) (item.Waits message) refl (waits_again message is)
read_again (item.Path p) is = worded (codes "path") (path_words p) (item.Path p) refl (path_again p is)
read_again (item.Record r) is = worded (codes "record") (record_words r) (item.Record r) refl (record_again r is)
read_again (item.Name a) is = worded (codes "name") (awaited_words a) (item.Name a) refl (name_again a is)
read_again (item.Ticket t) is = worded (codes "ticket") (ticket_words t) (item.Ticket t) refl (ticket_again t is)
read_again item.End is = refl

pub item_again : (i : Item) → IsNormalItem i → item_in (line_of i) ≡ Some i
item_again i is = short_line (line_of i) is.small ∙ read_again i is.fields
