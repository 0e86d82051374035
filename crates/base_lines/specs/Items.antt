-- The items of a base in their order, and what is read of a base item by item.
use Rattle.std.specs.Prelude.{ℕ, ◌==◌, ◌&&◌, Bool, List, [], ◌∷◌, ◌++◌, map, nat_le, Option, Some, None, if◌then◌else◌}
use Rattle.pcep_messages.specs.declared.message.Message.{Message}
use Rattle.te_base.specs.Values.{Values}
use Rattle.lsp_base.specs.declared.path.Path.{Path}
use Rattle.lsp_base.specs.declared.effect.Record.{Record}
use Rattle.commit_core.specs.declared.ticket.Ticket.{Ticket}
use Rattle.step_core.specs.States.{with_message}
use Rattle.step_core.specs.declared.names.AwaitedName.{AwaitedName}
use Rattle.step_core.specs.declared.peer.Peer.{Peer}
use Rattle.step_core.specs.States.{emptied}
use Rattle.base_lines.specs.declared.item.Counts.{Counts}
use Rattle.base_lines.specs.declared.item.Item.{Item}
use Rattle.base_lines.specs.declared.item.Item.TheVariants as item
use Rattle.base_lines.specs.declared.placed.PlacedBase.{PlacedBase}
use Rattle.base_lines.specs.declared.stage.Stage.{Stage}
use Rattle.base_lines.specs.declared.stage.Stage.TheVariants.{Start, Values as ValueLines, Peers, Paths, Records, Names, Tickets, Ended, Failed}

-- ---- the items of a base

abbrev pub counts_of : PlacedBase → Counts
counts_of b = record { steps = b.steps; grants = b.grants; changes = (b.base).changes; last_session = (b.base).last_session; last_ticket = (b.base).last_ticket }

-- a peer, and each message that waits for it
abbrev pub peer_items : Peer → List Item
peer_items p = item.Peer (emptied p) ∷ map (λ message. item.Waits message) p.outgoing

abbrev pub peers_items : List Peer → List Item
peers_items [] = []
peers_items (p ∷ peers) = peer_items p ++ peers_items peers

abbrev pub items_of : PlacedBase → List Item
items_of b =
    let base = b.base in
    item.Counts (counts_of b) ∷ (map (λ v. item.Value v) base.values ++ (peers_items base.peers ++ (map (λ p. item.Path p) base.paths ++ (map (λ r. item.Record r) base.records ++ (map (λ a. item.Name a) base.names ++ (map (λ t. item.Ticket t) base.tickets ++ (item.End ∷ [])))))))

-- ---- what is read, item by item

-- what was read so far, and of which part the last item was
pub record Reading : Type 0 where
  pub stage : Stage
  pub counts : Counts
  pub values : List Values
  pub peers : List Peer
  pub paths : List Path
  pub records : List Record
  pub names : List AwaitedName
  pub tickets : List Ticket

abbrev pub nothing_read : Reading
nothing_read = record { stage = Start; counts = record { steps = 0; grants = 0; changes = 0; last_session = 0; last_ticket = 0 }; values = []; peers = []; paths = []; records = []; names = []; tickets = [] }

-- the parts of a base in their order
abbrev pub rank : Stage → ℕ
rank Start = 0
rank ValueLines = 1
rank Peers = 2
rank Paths = 3
rank Records = 4
rank Names = 5
rank Tickets = 6
rank Ended = 7
rank Failed = 8

-- an item of a part may come after the counts, and not after one of a later part
abbrev pub may_come : Stage → Stage → Bool
may_come stage part = nat_le 1 (rank stage) && nat_le (rank stage) (rank part)

abbrev pub failed : Reading → Reading
failed r = record r { stage = Failed }

abbrev pub is_at_start : Reading → Bool
is_at_start r = rank r.stage == 0

abbrev pub is_at_peer : Reading → Bool
is_at_peer r = rank r.stage == 2

-- one more message waits for the last peer
abbrev pub with_waiting : List Peer → Message → List Peer
with_waiting [] message = []
with_waiting (p ∷ []) message = with_message p message ∷ []
with_waiting (p ∷ q ∷ peers) message = p ∷ with_waiting (q ∷ peers) message

-- what is read after one more item
unfoldable pub taken : Reading → Item → Reading
taken r (item.Counts c) = if is_at_start r then record r { stage = ValueLines; counts = c } else failed r
taken r (item.Value v) = if may_come r.stage ValueLines then record r { values = r.values ++ v ∷ [] } else failed r
taken r (item.Peer p) = if may_come r.stage Peers then record r { stage = Peers; peers = r.peers ++ p ∷ [] } else failed r
taken r (item.Waits message) = if is_at_peer r then record r { peers = with_waiting r.peers message } else failed r
taken r (item.Path p) = if may_come r.stage Paths then record r { stage = Paths; paths = r.paths ++ p ∷ [] } else failed r
taken r (item.Record x) = if may_come r.stage Records then record r { stage = Records; records = r.records ++ x ∷ [] } else failed r
taken r (item.Name a) = if may_come r.stage Names then record r { stage = Names; names = r.names ++ a ∷ [] } else failed r
taken r (item.Ticket t) = if may_come r.stage Tickets then record r { stage = Tickets; tickets = r.tickets ++ t ∷ [] } else failed r
taken r item.End = if may_come r.stage Tickets then record r { stage = Ended } else failed r

-- the base that was read; none before its end
abbrev pub is_ended : Reading → Bool
is_ended r = rank r.stage == 7

abbrev pub base_read : Reading → PlacedBase
base_read r = record {
  base = record {
    values = r.values;
    paths = r.paths;
    records = r.records;
    names = r.names;
    peers = r.peers;
    tickets = r.tickets;
    changes = (r.counts).changes;
    last_session = (r.counts).last_session;
    last_ticket = (r.counts).last_ticket;
  };
  steps = (r.counts).steps;
  grants = (r.counts).grants;
}

abbrev pub base_of : Reading → Option PlacedBase
base_of r = if is_ended r then Some (base_read r) else None
