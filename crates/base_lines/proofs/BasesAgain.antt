-- The lines of a base read as it.
use Rattle.std.proofs.Common.{◌≡◌, ℕ, ◌≤◌, true, List, [], ◌∷◌, ◌++◌, map, Option, Some, nat_le, refl, sym, ap, ◌∙◌, append_assoc, rules, tests, arith}
use Rattle.std.specs.List.{AllByRecursion}
use Rattle.std.proofs.lemmas.List.{append-nil}
use Rattle.pcep_messages.specs.declared.message.Message.{Message}
use Rattle.te_base.specs.Values.{Values}
use Rattle.lsp_base.specs.declared.path.Path.{Path}
use Rattle.lsp_base.specs.declared.effect.Record.{Record}
use Rattle.commit_core.specs.declared.ticket.Ticket.{Ticket}
use Rattle.step_core.specs.States.{emptied, with_message}
use Rattle.step_core.specs.declared.names.AwaitedName.{AwaitedName}
use Rattle.step_core.specs.declared.peer.Peer.{Peer}
use Rattle.base_lines.specs.Items.{counts_of, peers_items, items_of, Reading, nothing_read, rank, may_come, with_waiting, taken, base_read, base_of}
use Rattle.base_lines.specs.Lines.{base_lines, take_if, lines_read, base_in}
use Rattle.base_lines.specs.Normal.{IsNormalItem, IsNormalBase}
use Rattle.base_lines.specs.Words.{line_of}
use Rattle.base_lines.specs.declared.item.Item.{Item}
use Rattle.base_lines.specs.declared.item.Item.TheVariants as item
use Rattle.base_lines.specs.declared.placed.PlacedBase.{PlacedBase}
use Rattle.base_lines.specs.declared.stage.Stage.{Stage}
use Rattle.base_lines.specs.declared.stage.Stage.TheVariants.{Values as ValueLines, Peers, Paths, Records, Names, Tickets}
use Rattle.base_lines.proofs.ItemsAgain.{item_again}

-- ---- items in place of lines

abbrev all_taken : Reading → List Item → Reading
all_taken r [] = r
all_taken r (i ∷ items) = all_taken (taken r i) items

as_items : (items : List Item) (r : Reading) → AllByRecursion IsNormalItem items → lines_read r (map line_of items) ≡ all_taken r items
as_items [] r are = refl
as_items (i ∷ items) r are =
    ap (λ (found : Option Item). lines_read (take_if r found) (map line_of items)) (item_again i are.0) ∙ as_items items (taken r i) are.1

-- ---- the part that the last item was of

-- it is one after the start, and none after the k-th
abbrev IsUpTo : ℕ → Stage → Type 0
IsUpTo k stage = (1 ≤ rank stage) × (rank stage ≤ k)

comes : (stage part : Stage) → IsUpTo (rank part) stage → may_come stage part ≡ true
comes stage part is =
    let first : nat_le 1 (rank stage) ≡ true = search (rules, tests, is.0) in
    let second : nat_le (rank stage) (rank part) ≡ true = search (rules, tests, is.1) in
    rw (first, second) refl

-- after items of a part, if there are any
abbrev after : {A : Type 0} → Stage → Stage → List A → Stage
after stage part [] = stage
after stage part (x ∷ xs) = part

stays : {A : Type 0} (part : Stage) (xs : List A) → after part part xs ≡ part
stays part [] = refl
stays part (x ∷ xs) = refl

moves : {A : Type 0} (stage part : Stage) (xs : List A) (k : ℕ) → IsUpTo (rank part) stage → IsUpTo k part → IsUpTo k (after stage part xs)
moves stage part [] k before is = (before.0, omega (arith, before.1, is.1))
moves stage part (x ∷ xs) k before is = is

-- ---- the items of each part, one after the other

value_taken : (r : Reading) (v : Values) → r.stage ≡ ValueLines → taken r (item.Value v) ≡ record r { values = r.values ++ v ∷ [] }
unfolding taken
value_taken r v at =
    let may : may_come r.stage ValueLines ≡ true = ap (λ (stage : Stage). may_come stage ValueLines) at in
    rw may refl

values_taken : (vs : List Values) (rest : List Item) (r : Reading) → r.stage ≡ ValueLines → all_taken r (map (λ v. item.Value v) vs ++ rest) ≡ all_taken (record r { values = r.values ++ vs }) rest
values_taken [] rest r at = ap (λ (values : List Values). all_taken (record r { values = values }) rest) (sym (append-nil r.values))
values_taken (v ∷ vs) rest r at =
    ap (λ (next : Reading). all_taken next (map (λ v. item.Value v) vs ++ rest)) (value_taken r v at)
    ∙ values_taken vs rest (record r { values = r.values ++ v ∷ [] }) at
    ∙ ap (λ (values : List Values). all_taken (record r { values = values }) rest) (append_assoc r.values (v ∷ []) vs)

abbrev with_all : Peer → List Message → Peer
with_all p messages = record p { outgoing = p.outgoing ++ messages }

last_waits : (before : List Peer) (p : Peer) (message : Message) → with_waiting (before ++ p ∷ []) message ≡ before ++ with_message p message ∷ []
last_waits [] p message = refl
last_waits (q ∷ []) p message = refl
last_waits (q ∷ s ∷ before) p message = ap (λ (peers : List Peer). q ∷ peers) (last_waits (s ∷ before) p message)

waits_taken : (messages : List Message) (rest : List Item) (r : Reading) (before : List Peer) (p : Peer)
    → all_taken (record r { stage = Peers; peers = before ++ p ∷ [] }) (map (λ message. item.Waits message) messages ++ rest) ≡ all_taken (record r { stage = Peers; peers = before ++ with_all p messages ∷ [] }) rest
unfolding taken
waits_taken [] rest r before p =
    ap (λ (outgoing : List Message). all_taken (record r { stage = Peers; peers = before ++ record p { outgoing = outgoing } ∷ [] }) rest) (sym (append-nil p.outgoing))
waits_taken (message ∷ messages) rest r before p =
    ap (λ (peers : List Peer). all_taken (record r { stage = Peers; peers = peers }) (map (λ message. item.Waits message) messages ++ rest)) (last_waits before p message)
    ∙ waits_taken messages rest r before (with_message p message)
    ∙ ap (λ (outgoing : List Message). all_taken (record r { stage = Peers; peers = before ++ record p { outgoing = outgoing } ∷ [] }) rest) (append_assoc p.outgoing (message ∷ []) messages)

peer_taken : (r : Reading) (p : Peer) → IsUpTo 2 r.stage → taken r (item.Peer p) ≡ record r { stage = Peers; peers = r.peers ++ p ∷ [] }
unfolding taken
peer_taken r p at = rw (comes r.stage Peers at) refl

peers_taken : (ps : List Peer) (rest : List Item) (r : Reading) → IsUpTo 2 r.stage → all_taken r (peers_items ps ++ rest) ≡ all_taken (record r { stage = after r.stage Peers ps; peers = r.peers ++ ps }) rest
peers_taken [] rest r at = ap (λ (peers : List Peer). all_taken (record r { peers = peers }) rest) (sym (append-nil r.peers))
peers_taken (p ∷ ps) rest r at =
    let waiting = map (λ message. item.Waits message) p.outgoing in
    let next : Reading = record r { stage = Peers; peers = r.peers ++ p ∷ [] } in
    ap (λ (first : Reading). all_taken first ((waiting ++ peers_items ps) ++ rest)) (peer_taken r (emptied p) at)
    ∙ ap (λ (items : List Item). all_taken (record r { stage = Peers; peers = r.peers ++ emptied p ∷ [] }) items) (append_assoc waiting (peers_items ps) rest)
    ∙ waits_taken p.outgoing (peers_items ps ++ rest) r r.peers (emptied p)
    ∙ peers_taken ps rest next (omega arith, omega arith)
    ∙ ap (λ (stage : Stage). all_taken (record r { stage = stage; peers = (r.peers ++ p ∷ []) ++ ps }) rest) (stays Peers ps)
    ∙ ap (λ (peers : List Peer). all_taken (record r { stage = Peers; peers = peers }) rest) (append_assoc r.peers (p ∷ []) ps)

path_taken : (r : Reading) (p : Path) → IsUpTo 3 r.stage → taken r (item.Path p) ≡ record r { stage = Paths; paths = r.paths ++ p ∷ [] }
unfolding taken
path_taken r p at = rw (comes r.stage Paths at) refl

paths_taken : (ps : List Path) (rest : List Item) (r : Reading) → IsUpTo 3 r.stage → all_taken r (map (λ p. item.Path p) ps ++ rest) ≡ all_taken (record r { stage = after r.stage Paths ps; paths = r.paths ++ ps }) rest
paths_taken [] rest r at = ap (λ (paths : List Path). all_taken (record r { paths = paths }) rest) (sym (append-nil r.paths))
paths_taken (p ∷ ps) rest r at =
    ap (λ (next : Reading). all_taken next (map (λ p. item.Path p) ps ++ rest)) (path_taken r p at)
    ∙ paths_taken ps rest (record r { stage = Paths; paths = r.paths ++ p ∷ [] }) (omega arith, omega arith)
    ∙ ap (λ (stage : Stage). all_taken (record r { stage = stage; paths = (r.paths ++ p ∷ []) ++ ps }) rest) (stays Paths ps)
    ∙ ap (λ (paths : List Path). all_taken (record r { stage = Paths; paths = paths }) rest) (append_assoc r.paths (p ∷ []) ps)

record_taken : (r : Reading) (x : Record) → IsUpTo 4 r.stage → taken r (item.Record x) ≡ record r { stage = Records; records = r.records ++ x ∷ [] }
unfolding taken
record_taken r x at = rw (comes r.stage Records at) refl

records_taken : (xs : List Record) (rest : List Item) (r : Reading) → IsUpTo 4 r.stage → all_taken r (map (λ x. item.Record x) xs ++ rest) ≡ all_taken (record r { stage = after r.stage Records xs; records = r.records ++ xs }) rest
records_taken [] rest r at = ap (λ (records : List Record). all_taken (record r { records = records }) rest) (sym (append-nil r.records))
records_taken (x ∷ xs) rest r at =
    ap (λ (next : Reading). all_taken next (map (λ x. item.Record x) xs ++ rest)) (record_taken r x at)
    ∙ records_taken xs rest (record r { stage = Records; records = r.records ++ x ∷ [] }) (omega arith, omega arith)
    ∙ ap (λ (stage : Stage). all_taken (record r { stage = stage; records = (r.records ++ x ∷ []) ++ xs }) rest) (stays Records xs)
    ∙ ap (λ (records : List Record). all_taken (record r { stage = Records; records = records }) rest) (append_assoc r.records (x ∷ []) xs)

name_taken : (r : Reading) (x : AwaitedName) → IsUpTo 5 r.stage → taken r (item.Name x) ≡ record r { stage = Names; names = r.names ++ x ∷ [] }
unfolding taken
name_taken r x at = rw (comes r.stage Names at) refl

names_taken : (xs : List AwaitedName) (rest : List Item) (r : Reading) → IsUpTo 5 r.stage → all_taken r (map (λ a. item.Name a) xs ++ rest) ≡ all_taken (record r { stage = after r.stage Names xs; names = r.names ++ xs }) rest
names_taken [] rest r at = ap (λ (names : List AwaitedName). all_taken (record r { names = names }) rest) (sym (append-nil r.names))
names_taken (x ∷ xs) rest r at =
    ap (λ (next : Reading). all_taken next (map (λ a. item.Name a) xs ++ rest)) (name_taken r x at)
    ∙ names_taken xs rest (record r { stage = Names; names = r.names ++ x ∷ [] }) (omega arith, omega arith)
    ∙ ap (λ (stage : Stage). all_taken (record r { stage = stage; names = (r.names ++ x ∷ []) ++ xs }) rest) (stays Names xs)
    ∙ ap (λ (names : List AwaitedName). all_taken (record r { stage = Names; names = names }) rest) (append_assoc r.names (x ∷ []) xs)

ticket_taken : (r : Reading) (x : Ticket) → IsUpTo 6 r.stage → taken r (item.Ticket x) ≡ record r { stage = Tickets; tickets = r.tickets ++ x ∷ [] }
unfolding taken
ticket_taken r x at = rw (comes r.stage Tickets at) refl

tickets_taken : (xs : List Ticket) (rest : List Item) (r : Reading) → IsUpTo 6 r.stage → all_taken r (map (λ t. item.Ticket t) xs ++ rest) ≡ all_taken (record r { stage = after r.stage Tickets xs; tickets = r.tickets ++ xs }) rest
tickets_taken [] rest r at = ap (λ (tickets : List Ticket). all_taken (record r { tickets = tickets }) rest) (sym (append-nil r.tickets))
tickets_taken (x ∷ xs) rest r at =
    ap (λ (next : Reading). all_taken next (map (λ t. item.Ticket t) xs ++ rest)) (ticket_taken r x at)
    ∙ tickets_taken xs rest (record r { stage = Tickets; tickets = r.tickets ++ x ∷ [] }) (omega arith, omega arith)
    ∙ ap (λ (stage : Stage). all_taken (record r { stage = stage; tickets = (r.tickets ++ x ∷ []) ++ xs }) rest) (stays Tickets xs)
    ∙ ap (λ (tickets : List Ticket). all_taken (record r { stage = Tickets; tickets = tickets }) rest) (append_assoc r.tickets (x ∷ []) xs)

ends : (r : Reading) → IsUpTo 6 r.stage → base_of (all_taken r (item.End ∷ [])) ≡ Some (base_read r)
unfolding taken
ends r at = rw (comes r.stage Tickets at) refl

-- ---- all of them

all_again : (b : PlacedBase) → base_of (all_taken nothing_read (items_of b)) ≡ Some b
unfolding taken
all_again b =
    let base = b.base in
    let last = item.End ∷ [] in
    let tickets = map (λ t. item.Ticket t) base.tickets ++ last in
    let names = map (λ a. item.Name a) base.names ++ tickets in
    let records = map (λ r. item.Record r) base.records ++ names in
    let paths = map (λ p. item.Path p) base.paths ++ records in
    let peers = peers_items base.peers ++ paths in
    let counted : Reading = record nothing_read { stage = ValueLines; counts = counts_of b } in
    let valued : Reading = record counted { values = base.values } in
    let at_peers = after ValueLines Peers base.peers in
    let peered : Reading = record valued { stage = at_peers; peers = base.peers } in
    let at_paths = after at_peers Paths base.paths in
    let pathed : Reading = record peered { stage = at_paths; paths = base.paths } in
    let at_records = after at_paths Records base.records in
    let recorded : Reading = record pathed { stage = at_records; records = base.records } in
    let at_names = after at_records Names base.names in
    let named : Reading = record recorded { stage = at_names; names = base.names } in
    let at_tickets = after at_names Tickets base.tickets in
    let whole : Reading = record named { stage = at_tickets; tickets = base.tickets } in
    let start : IsUpTo 2 ValueLines = (omega arith, omega arith) in
    let before_paths : IsUpTo 3 at_peers = moves ValueLines Peers base.peers 3 start (omega arith, omega arith) in
    let before_records : IsUpTo 4 at_paths = moves at_peers Paths base.paths 4 before_paths (omega arith, omega arith) in
    let before_names : IsUpTo 5 at_records = moves at_paths Records base.records 5 before_records (omega arith, omega arith) in
    let before_tickets : IsUpTo 6 at_names = moves at_records Names base.names 6 before_names (omega arith, omega arith) in
    let before_end : IsUpTo 6 at_tickets = moves at_names Tickets base.tickets 6 before_tickets (omega arith, omega arith) in
    ap base_of (values_taken base.values peers counted refl)
    ∙ ap base_of (peers_taken base.peers paths valued start)
    ∙ ap base_of (paths_taken base.paths records peered before_paths)
    ∙ ap base_of (records_taken base.records names pathed before_records)
    ∙ ap base_of (names_taken base.names tickets recorded before_names)
    ∙ ap base_of (tickets_taken base.tickets last named before_tickets)
    ∙ ends whole before_end

pub again : (b : PlacedBase) → IsNormalBase b → base_in (base_lines b) ≡ Some b
again b is = ap base_of (as_items (items_of b) nothing_read is) ∙ all_again b
