-- What is written nests few levels, and is read again.
use Rattle.std.proofs.Common.{◌≡◌, ◌∙◌, ℕ, ◌+◌, ◌-◌, ◌^◌, ◌≤◌, min, ℤ, nat_eq, Bool, true, false, if◌then◌else◌, List, [], ◌∷◌, Option, None, Some, option_and_then, option_map, ap, sym, arith, append-nil}
use Rattle.std.specs.Str.{is_utf8}
use Rattle.json.specs.Json.{Json, document, value, if_last, max_depth, string, null}
use Rattle.json.specs.Lex.{tokens}
use Rattle.json.specs.Tree.{json_tokens, depth, items_depth}
use Rattle.json.proofs.Printed.Trees.{value-json_tokens}
use Rattle.te_base.specs.declared.network.Link.{Link}
use Rattle.te_base.specs.declared.network.Node.{Node}
use Rattle.lsp_base.specs.declared.path.Path.{Path}
use Rattle.pce_seen.specs.declared.grants.Deletion.{Deletion}
use Rattle.pce_seen.specs.declared.grants.GrantPage.{GrantPage}
use Rattle.pce_seen.specs.declared.grants.KnownGrant.{KnownGrant}
use Rattle.pce_seen.specs.declared.lsps.HeldPath.{HeldPath}
use Rattle.pce_seen.specs.declared.lsps.KnownLsp.{KnownLsp}
use Rattle.pce_seen.specs.declared.lsps.LinkUse.{LinkUse}
use Rattle.pce_seen.specs.declared.gaps.Gap.{Gap}
use Rattle.pce_seen.specs.declared.lsps.LspPage.{LspPage}
use Rattle.pce_seen.specs.declared.origins.LspOrigins.{LspOrigins}
use Rattle.pce_seen.specs.declared.origins.TracedPath.{TracedPath}
use Rattle.pce_seen.specs.declared.peers.KnownPeer.{KnownPeer}
use Rattle.pce_seen.specs.declared.peers.LspOwner.{LspOwner}
use Rattle.pce_seen.specs.declared.places.PlacedLsp.{PlacedLsp}
use Rattle.pce_seen.specs.declared.places.PlacedPage.{PlacedPage}
use Rattle.commit_core.specs.declared.ticket.Ticket.{Ticket}
use Rattle.path_looks.specs.declared.answer.Obstacle.{Obstacle}
use Rattle.path_looks.specs.declared.answer.PathAnswer.{PathAnswer}
use Rattle.path_looks.specs.declared.full.FullLink.{FullLink}
use Rattle.path_looks.specs.declared.link_room.LinkRoom.{LinkRoom}
use Rattle.path_looks.specs.declared.moves.Move.{Move}
use Rattle.pce_seen.specs.declared.seen.Counts.{Counts}
use Rattle.pce_view.specs.declared.history.KnownStep.{KnownStep}
use Rattle.std.specs.Map.{lookup}
use Rattle.end_reasons.specs.declared.reason.Reason.{Reason}
use Rattle.server_counts.specs.declared.residuals.ResidualRow.{ResidualRow}
use Rattle.server_counts.specs.declared.marks.Mark.{Mark}
use Rattle.server_counts.specs.declared.peer_states.PeerState.{PeerState}
use Rattle.server_rules.specs.declared.path_words.PathWords.{PathWords}
use Rattle.pce_view.specs.declared.age.Age.{Age}
use Rattle.pce_view.specs.declared.heard.Heard.{Heard}
use Rattle.pce_view.specs.declared.moments.Moments.{Moments}
use Rattle.pce_view.specs.declared.better.BetterLsp.{BetterLsp}
use Rattle.pce_view.specs.declared.notes.LspNotes.{LspNotes}
use Rattle.pce_view.specs.declared.notes.PathNotes.{PathNotes}
use Rattle.pce_view.specs.Fields.{address_or_null, amounts, end_json, left_or_null, lsp_id, name_or_null, obstacle_json, refusal_words, srp_id, text_or_null, whole_or_null, wholes, word_or_null}
use Rattle.pce_view.specs.States.{gap_at, gaps_at, lsp_notes, path_notes, word_on}
use Rattle.pce_view.specs.Unanswered.{unanswered_ms}
use Rattle.pce_view.specs.Why.{age_of, left_by, left_row_items, left_row_json, left_rows_or_null, origins_or_null, traced_items, traced_json}
use Rattle.pce_view.specs.Better.{better_items, better_json, better_page_json}
use Rattle.pce_view.specs.Links.{book_json, link_json, links_json, node_json, nodes_json}
use Rattle.pce_view.specs.Peers.{counted_json, delegated_of, lsps_of, moments_of, peer_items, peers_json}
use Rattle.pce_view.specs.Grants.{deletion_items, deletion_json, grant_items, grant_json, grants_json}
use Rattle.pce_view.specs.Path.{full_items, full_json, path_answer_json}
use Rattle.pce_view.specs.Link.{held_items, held_json, use_json}
use Rattle.pce_view.specs.LinkLine.{line_items, line_json, lines_json}
use Rattle.pce_view.specs.Lsps.{lsp_items, noted_lsp_json, page_json, path_items, path_json}
use Rattle.pce_view.specs.Lsp.{lsp_or_null}
use Rattle.pce_view.specs.Without.{move_items, move_json, run_json}
use Rattle.pce_view.specs.Status.{status_json}
use Rattle.pce_view.specs.History.{step_items, step_json, steps_json}
use Rattle.pce_view.specs.Tickets.{ticket_items, ticket_json, tickets_json}
use Rattle.history_core.specs.Briefs.{brief_number}
use Rattle.pce_view.specs.Words.{cost_in, cost_of_path, link_in, links_in, links_of_path, lsp_error_word, obstacle_of, operational_word, origin_step, origin_ticket, origin_word, purpose_name, purpose_plsp, purpose_request, state_word}

pub document-of_tokens : (text : List ℕ) (j : Json) → tokens text ≡ json_tokens j → depth j ≤ max_depth → document text ≡ Some j
document-of_tokens text j is shallow =
    ap (option_and_then (λ p. if_last p.0 p.1))
    (ap (value max_depth) (is ∙ sym (append-nil (json_tokens j))) ∙ value-json_tokens j max_depth [] shallow)

amounts_shallow : (ns : List ℤ) → items_depth (amounts ns) ≤ 0
amounts_shallow [] = omega arith
amounts_shallow (n ∷ ns) = omega (arith, amounts_shallow ns)

pub wholes_shallow : (ns : List ℕ) → items_depth (wholes ns) ≤ 0
wholes_shallow [] = omega arith
wholes_shallow (n ∷ ns) = omega (arith, wholes_shallow ns)

pub whole_or_shallow : (n : Option ℕ) → depth (whole_or_null n) ≤ 0
whole_or_shallow None = omega arith
whole_or_shallow (Some n) = omega arith

pub address_or_shallow : (a : Option ℕ) → depth (address_or_null a) ≤ 0
address_or_shallow None = omega arith
address_or_shallow (Some a) = omega arith

text_by : (b : Bool) (bytes : List ℕ) → depth (if b then string bytes else null) ≤ 0
text_by true bytes = omega arith
text_by false bytes = omega arith

text_or_shallow : (bytes : List ℕ) → depth (text_or_null bytes) ≤ 0
text_or_shallow bytes = text_by (is_utf8 bytes) bytes

word_or_shallow : (word : Option (List ℕ)) → depth (word_or_null word) ≤ 0
word_or_shallow None = omega arith
word_or_shallow (Some word) = omega arith

pub status_shallow : (version : List ℕ) (uptime : ℕ) (counts : Counts) → depth (status_json version uptime counts) ≤ max_depth
unfolding status_json
status_shallow version uptime counts = omega arith

node_shallow : (n : ℕ) (node : Node) → depth (node_json n node) ≤ 1
unfolding node_json
node_shallow n node = omega arith

nodes_shallow : (n : ℕ) (nodes : List Node) → items_depth (nodes_json n nodes) ≤ 1
nodes_shallow n [] = omega arith
nodes_shallow n (node ∷ nodes) = omega (arith, node_shallow n node, nodes_shallow (n + 1) nodes)

link_shallow : (nodes : List Node) (n : ℕ) (link : Link) (left : List ℤ) → depth (link_json nodes n link left) ≤ 2
unfolding link_json
link_shallow nodes n link left = omega (arith, amounts_shallow left)

links_shallow : (nodes : List Node) (n : ℕ) (links : List Link) (lefts : List (List ℤ)) → items_depth (links_json nodes n links lefts) ≤ 2
links_shallow nodes n [] lefts = omega arith
links_shallow nodes n (link ∷ links) [] = omega arith
links_shallow nodes n (link ∷ links) (left ∷ lefts) = omega (arith, link_shallow nodes n link left, links_shallow nodes (n + 1) links lefts)

pub book_shallow : (nodes : List Node) (links : List Link) (lefts : List (List ℤ)) → depth (book_json nodes links lefts) ≤ max_depth
book_shallow nodes links lefts = omega (arith, nodes_shallow 0 nodes, links_shallow nodes 0 links lefts)

end_shallow : (e : Option Reason) → depth (end_json e) ≤ 0
end_shallow None = omega arith
end_shallow (Some reason) = omega arith

peer_shallow : (peer : KnownPeer) (lsps delegated : ℕ) (m : Moments) → depth (counted_json peer lsps delegated m) ≤ 1
unfolding counted_json
peer_shallow peer lsps delegated m = omega (arith, whole_or_shallow m.since_ms_ago, whole_or_shallow m.end_ms_ago, end_shallow m.end, whole_or_shallow m.number)

peer_items_shallow : (now_ms : ℕ) (peer_states : List (ℕ × PeerState)) (owners : List LspOwner) (peers : List KnownPeer) → items_depth (peer_items now_ms peer_states owners peers) ≤ 1
peer_items_shallow now_ms peer_states owners [] = omega arith
peer_items_shallow now_ms peer_states owners (peer ∷ peers) =
    omega (
      arith,
      peer_shallow peer (lsps_of owners peer.peer) (delegated_of owners peer.peer) (moments_of now_ms (lookup (nat_eq peer.peer) peer_states)),
      peer_items_shallow now_ms peer_states owners peers,
    )

pub peers_shallow : (now_ms : ℕ) (peer_states : List (ℕ × PeerState)) (owners : List LspOwner) (peers : List KnownPeer) → depth (peers_json now_ms peer_states owners peers) ≤ max_depth
peers_shallow now_ms peer_states owners peers = omega (arith, peer_items_shallow now_ms peer_states owners peers)

path_shallow : (n : PathNotes) (x : Path) → depth (path_json n x) ≤ 2
unfolding path_json
path_shallow n x =
    omega (
      arith,
      whole_or_shallow (lsp_id x.part),
      whole_or_shallow (srp_id x.part),
      wholes_shallow x.links,
      word_or_shallow (option_map operational_word n.operational),
      whole_or_shallow n.error_code,
      word_or_shallow (option_map lsp_error_word n.error_code),
      address_or_shallow n.rsvp_node,
      whole_or_shallow n.rsvp_code,
      whole_or_shallow n.rsvp_value,
      whole_or_shallow n.gap_before,
      whole_or_shallow n.gap_after,
    )

path_items_shallow : (words : PathWords) (gaps : List (Option Gap)) (place : ℕ) (xs : List Path) → items_depth (path_items words gaps place xs) ≤ 2
path_items_shallow words gaps place [] = omega arith
path_items_shallow words gaps place (x ∷ xs) = omega (arith, path_shallow (path_notes (word_on words x) (gap_at gaps place)) x, path_items_shallow words gaps (place + 1) xs)

noted_lsp_shallow : (n : LspNotes) (words : PathWords) (gaps : List (Option Gap)) (l : KnownLsp) → depth (noted_lsp_json n words gaps l) ≤ 4
unfolding noted_lsp_json
noted_lsp_shallow n words gaps l =
    omega (
      arith,
      text_or_shallow ((l.known).lsp).name,
      word_or_shallow (state_word n.state),
      address_or_shallow (((l.known).lsp).constraints).source,
      address_or_shallow (((l.known).lsp).constraints).destination,
      whole_or_shallow n.refusal_type,
      whole_or_shallow n.refusal_value,
      word_or_shallow (refusal_words n.refusal),
      path_items_shallow words gaps 0 l.paths,
    )

lsp_items_shallow : (h : Heard) (gaps : List (List (Option Gap))) (place : ℕ) (ls : List KnownLsp) → items_depth (lsp_items h gaps place ls) ≤ 4
lsp_items_shallow h gaps place [] = omega arith
lsp_items_shallow h gaps place (l ∷ ls) = omega (arith, noted_lsp_shallow (lsp_notes h l (gaps_at gaps place)) h.words (gaps_at gaps place) l, lsp_items_shallow h gaps (place + 1) ls)

pub page_shallow : (from : ℕ) (h : Heard) (placed : PlacedPage) → depth (page_json from h placed) ≤ max_depth
page_shallow from h placed = omega (arith, whole_or_shallow (placed.page).next, lsp_items_shallow h placed.gaps.items 0 (placed.page).lsps.items)

pub lsp_or_shallow : (h : Heard) (placed : Option PlacedLsp) → depth (lsp_or_null h placed) ≤ max_depth
lsp_or_shallow h None = omega arith
lsp_or_shallow h (Some placed) = omega (arith, noted_lsp_shallow (lsp_notes h placed.lsp placed.gaps) h.words placed.gaps placed.lsp)

held_shallow : (h : HeldPath) → depth (held_json h) ≤ 1
unfolding held_json
held_shallow h = omega (arith, whole_or_shallow (lsp_id h.part), whole_or_shallow (srp_id h.part))

held_items_shallow : (hs : List HeldPath) → items_depth (held_items hs) ≤ 1
held_items_shallow [] = omega arith
held_items_shallow (h ∷ hs) = omega (arith, held_shallow h, held_items_shallow hs)

pub use_shallow : (n : ℕ) (u : LinkUse) (hs : List HeldPath) → depth (use_json n u hs) ≤ max_depth
unfolding use_json
use_shallow n u hs = omega (arith, amounts_shallow u.left, held_items_shallow hs)

line_shallow : (n : ℕ) (u : LinkUse) → depth (line_json n u) ≤ 2
unfolding line_json
line_shallow n u = omega (arith, amounts_shallow u.left)

line_items_shallow : (n : ℕ) (u : Option LinkUse) → items_depth (line_items n u) ≤ 2
line_items_shallow n None = omega arith
line_items_shallow n (Some u) = omega (arith, line_shallow n u)

pub lines_shallow : (n : ℕ) (u : Option LinkUse) → depth (lines_json n u) ≤ max_depth
lines_shallow n u = omega (arith, line_items_shallow n u)

name_or_shallow : (n : Option (List ℕ)) → depth (name_or_null n) ≤ 0
name_or_shallow None = omega arith
name_or_shallow (Some bytes) = text_or_shallow bytes

grant_shallow : (unanswered : Option ℕ) (g : KnownGrant) → depth (grant_json unanswered g) ≤ 2
unfolding grant_json
grant_shallow unanswered g = omega (arith, whole_or_shallow unanswered, whole_or_shallow (srp_id (g.path).part), name_or_shallow g.name, wholes_shallow (g.path).links)

grant_items_shallow : (now_ms : ℕ) (since : List (Option ℕ)) (place : ℕ) (gs : List KnownGrant) → items_depth (grant_items now_ms since place gs) ≤ 2
grant_items_shallow now_ms since place [] = omega arith
grant_items_shallow now_ms since place (g ∷ gs) = omega (arith, grant_shallow (unanswered_ms now_ms since place) g, grant_items_shallow now_ms since (place + 1) gs)

deletion_shallow : (unanswered : Option ℕ) (d : Deletion) → depth (deletion_json unanswered d) ≤ 1
unfolding deletion_json
deletion_shallow unanswered d = omega (arith, whole_or_shallow unanswered)

deletion_items_shallow : (now_ms : ℕ) (since : List (Option ℕ)) (place : ℕ) (ds : List Deletion) → items_depth (deletion_items now_ms since place ds) ≤ 1
deletion_items_shallow now_ms since place [] = omega arith
deletion_items_shallow now_ms since place (d ∷ ds) = omega (arith, deletion_shallow (unanswered_ms now_ms since place) d, deletion_items_shallow now_ms since (place + 1) ds)

pub grants_shallow : (from now_ms : ℕ) (h : Heard) (page : GrantPage) → depth (grants_json from now_ms h page) ≤ max_depth
grants_shallow from now_ms h page = omega (arith, whole_or_shallow page.next, grant_items_shallow now_ms h.grants_since_ms.items 0 page.grants.items, deletion_items_shallow now_ms h.deletions_since_ms.items 0 page.deletions.items)

ticket_shallow : (t : Ticket) → depth (ticket_json t) ≤ 1
unfolding ticket_json
ticket_shallow t = omega (arith, whole_or_shallow (purpose_plsp t.purpose), name_or_shallow (purpose_name t.purpose), whole_or_shallow (purpose_request t.purpose), address_or_shallow (t.constraints).source, address_or_shallow (t.constraints).destination)

ticket_items_shallow : (ts : List Ticket) → items_depth (ticket_items ts) ≤ 1
ticket_items_shallow [] = omega arith
ticket_items_shallow (t ∷ ts) = omega (arith, ticket_shallow t, ticket_items_shallow ts)

pub tickets_shallow : (ts : List Ticket) → depth (tickets_json ts) ≤ max_depth
tickets_shallow ts = omega (arith, ticket_items_shallow ts)

step_shallow : (place : ℕ) (x : KnownStep) → depth (step_json place x) ≤ 1
unfolding step_json
step_shallow place x = omega (arith, address_or_shallow x.peer, whole_or_shallow (brief_number x.reply))

step_items_shallow : (first n : ℕ) (xs : List KnownStep) → items_depth (step_items first n xs) ≤ 1
step_items_shallow first n [] = omega arith
step_items_shallow first n (x ∷ xs) = omega (arith, step_shallow (min (first + n) (2 ^ 64 - 1)) x, step_items_shallow first (n + 1) xs)

pub steps_shallow : (first : ℕ) (xs : List KnownStep) → depth (steps_json first xs) ≤ max_depth
steps_shallow first xs = omega (arith, step_items_shallow first 0 xs)

full_shallow : (f : FullLink) → depth (full_json f) ≤ 1
unfolding full_json
full_shallow f = omega arith

full_items_shallow : (fs : List FullLink) → items_depth (full_items fs) ≤ 1
full_items_shallow [] = omega arith
full_items_shallow (f ∷ fs) = omega (arith, full_shallow f, full_items_shallow fs)

obstacle_shallow : (o : Option Obstacle) → depth (obstacle_json o) ≤ 0
obstacle_shallow None = omega arith
obstacle_shallow (Some by) = omega arith

left_or_shallow : (room : Option LinkRoom) → depth (left_or_null room) ≤ 0
left_or_shallow None = omega arith
left_or_shallow (Some room) = omega arith

pub path_answer_shallow : (a : PathAnswer) (room : Option LinkRoom) (full : List FullLink) → depth (path_answer_json a room full) ≤ max_depth
path_answer_shallow a room full = omega (arith, obstacle_shallow (obstacle_of a), whole_or_shallow (cost_in a), wholes_shallow (links_in a), whole_or_shallow (link_in room), left_or_shallow room, full_items_shallow full)

left_row_shallow : (r : ResidualRow) → depth (left_row_json r) ≤ 1
unfolding left_row_json
left_row_shallow r = omega arith

left_row_items_shallow : (rs : List ResidualRow) → items_depth (left_row_items rs) ≤ 1
left_row_items_shallow [] = omega arith
left_row_items_shallow (r ∷ rs) = omega (arith, left_row_shallow r, left_row_items_shallow rs)

left_rows_shallow : (rs : List ResidualRow) → depth (left_rows_or_null rs) ≤ 2
left_rows_shallow [] = omega arith
left_rows_shallow (r ∷ rs) = omega (arith, left_row_shallow r, left_row_items_shallow rs)

traced_shallow : (x : TracedPath) (age : Age) (left : List ResidualRow) → depth (traced_json x age left) ≤ 3
unfolding traced_json
traced_shallow x age left = omega (arith, whole_or_shallow age.least_ms, whole_or_shallow age.most_ms, whole_or_shallow (lsp_id (x.path).part), whole_or_shallow (srp_id (x.path).part), wholes_shallow (x.path).links, word_or_shallow (origin_word x.origin), whole_or_shallow (origin_step x.origin), whole_or_shallow (origin_ticket x.origin), left_rows_shallow left)

traced_items_shallow : (now_ms : ℕ) (marks : List Mark) (lefts : List ResidualRow) (xs : List TracedPath) → items_depth (traced_items now_ms marks lefts xs) ≤ 3
traced_items_shallow now_ms marks lefts [] = omega arith
traced_items_shallow now_ms marks lefts (x ∷ xs) = omega (arith, traced_shallow x (age_of now_ms marks (origin_step x.origin)) (left_by (origin_step x.origin) lefts), traced_items_shallow now_ms marks lefts xs)

pub origins_or_shallow : (now_ms : ℕ) (marks : List Mark) (lefts : List ResidualRow) (o : Option LspOrigins) → depth (origins_or_null now_ms marks lefts o) ≤ max_depth
origins_or_shallow now_ms marks lefts None = omega arith
origins_or_shallow now_ms marks lefts (Some o) = omega (arith, traced_items_shallow now_ms marks lefts o.paths.items)

better_lsp_shallow : (b : BetterLsp) → depth (better_json b) ≤ 2
unfolding better_json
better_lsp_shallow b = omega (arith, wholes_shallow ((b.cheaper).path).links)

better_items_shallow : (bs : List BetterLsp) → items_depth (better_items bs) ≤ 2
better_items_shallow [] = omega arith
better_items_shallow (b ∷ bs) = omega (arith, better_lsp_shallow b, better_items_shallow bs)

pub better_shallow : (from : ℕ) (page : LspPage) (bs : List BetterLsp) → depth (better_page_json from page bs) ≤ max_depth
better_shallow from page bs = omega (arith, whole_or_shallow page.next, better_items_shallow bs)

move_shallow : (m : Move) → depth (move_json m) ≤ 2
unfolding move_json
move_shallow m = omega (arith, whole_or_shallow (cost_of_path m.path), wholes_shallow (links_of_path m.path))

move_items_shallow : (ms : List Move) → items_depth (move_items ms) ≤ 2
move_items_shallow [] = omega arith
move_items_shallow (m ∷ ms) = omega (arith, move_shallow m, move_items_shallow ms)

pub run_shallow : (link : ℕ) (rest : Option ℕ) (ms : List Move) → depth (run_json link rest ms) ≤ max_depth
run_shallow link rest ms = omega (arith, whole_or_shallow rest, move_items_shallow ms)
