-- What the database knows: the network, peers, the paths and records of their LSPs, and what is asked for.
use Rattle.std.specs.Prelude.{ℕ, ◌+◌, Bool, true, false, ◌==◌, ◌&&◌, not, List, [], ◌∷◌, ◌++◌, find, unwrap_or, Option, Some, is_some, if◌then◌else◌}
use Rattle.lsp_words.specs.declared.object.Capabilities.{Capabilities}
use Rattle.pcep_messages.specs.declared.message.Message.{Message}
use Rattle.te_base.specs.Ted.{Ted}
use Rattle.lsp_base.specs.Lsps.{Lsps, no_lsps, changed, without_first}
use Rattle.lsp_base.specs.Grants.{is_unbound_grant}
use Rattle.lsp_base.specs.Same.{same_links}
use Rattle.lsp_base.specs.declared.path.Path.{Path}
use Rattle.lsp_base.specs.declared.effect.Effect.{Effect}
use Rattle.initiate_rules.specs.Numbers.{next_srp}
use Rattle.commit_core.specs.declared.ticket.Ticket.{Ticket}
use Rattle.ticket_table.specs.Tickets.{first_waiting}
use Rattle.step_core.specs.declared.names.AwaitedName.{AwaitedName}
use Rattle.step_core.specs.declared.peer.Peer.{Peer}

pub record State : Type 0 where
  pub te : Ted
  pub base : Lsps
  -- the names of granted initiations that no report has named yet
  pub names : List AwaitedName
  pub peers : List Peer
  -- the tickets, in the order in which they were asked for
  pub tickets : List Ticket
  -- how many events dropped or added a path, or reloaded links
  pub changes : ℕ
  -- the last session's number; it counts over all peers, and no number is used again
  pub last_session : ℕ
  pub last_ticket : ℕ

-- nothing was reported yet
abbrev pub empty : Ted → State
empty te = record { te = te; base = no_lsps; names = []; peers = []; tickets = []; changes = 0; last_session = 0; last_ticket = 0 }

-- ---- peers

abbrev pub is_peer : ℕ → Peer → Bool
is_peer n p = p.number == n

abbrev pub is_known : List Peer → ℕ → Bool
is_known peers n = is_some (find (is_peer n) peers)

abbrev pub no_capabilities : Capabilities
no_capabilities = record { update = false; create = false }

-- what holds for a peer that isn't known
abbrev pub unknown_peer : ℕ → Peer
unknown_peer n = record { number = n; up = false; session = 0; capabilities = no_capabilities; syncing = false; last_srp = 0; outgoing = [] }

abbrev pub peer_at : List Peer → ℕ → Peer
peer_at peers n = unwrap_or (find (is_peer n) peers) (unknown_peer n)

abbrev pub is_up : State → ℕ → Bool
is_up s n = (peer_at s.peers n).up

-- the peers with this one set: in its place if it is known, else as the last
abbrev pub put_peer : List Peer → Peer → List Peer
put_peer [] p = p ∷ []
put_peer (q ∷ ps) p = if is_peer p.number q then p ∷ ps else q ∷ put_peer ps p

-- a peer in a new session; it synchronizes if it sent the capability (RFC 8231 section 5.6)
abbrev pub in_session : Peer → ℕ → Option Capabilities → Peer
in_session p session sent = record p { up = true; session = session; capabilities = unwrap_or sent no_capabilities; syncing = is_some sent }

-- a peer that has reported all that it has
abbrev pub synchronized : Peer → Peer
synchronized p = record p { syncing = false }

-- a peer whose session has ended: what waited for it is gone
abbrev pub out_of_session : Peer → Peer
out_of_session p = record p { up = false; syncing = false; outgoing = [] }

-- a peer for which nothing waits
abbrev pub emptied : Peer → Peer
emptied p = record p { outgoing = [] }

-- a peer that is asked for something, under its next number (RFC 8231 section 7.2): the message waits to be sent
abbrev pub asked : Peer → Message → Peer
asked p message = record p { last_srp = next_srp p.last_srp; outgoing = p.outgoing ++ message ∷ [] }

-- a peer to which a message without a number waits to be sent
abbrev pub with_message : Peer → Message → Peer
with_message p message = record p { outgoing = p.outgoing ++ message ∷ [] }

-- what waits for a peer to be sent, oldest first
abbrev pub outgoing : State → ℕ → List Message
outgoing s n = (peer_at s.peers n).outgoing

abbrev pub is_nothing : List Message → Bool
is_nothing [] = true
is_nothing (m ∷ ms) = false

abbrev pub is_queued : State → ℕ → Bool
is_queued s n = not (is_nothing (outgoing s n))

-- the number of the next request to a peer
abbrev pub next_number : State → ℕ → ℕ
next_number s n = next_srp (peer_at s.peers n).last_srp

-- some ticket waits to be searched for
abbrev pub has_waiting : State → Bool
has_waiting s = is_some (first_waiting s.tickets)

-- ---- names of initiations

-- a granted initiation of the peer has the name and no report has named it yet
abbrev pub is_awaited_as : ℕ → List ℕ → AwaitedName → Bool
is_awaited_as peer name a = a.peer == peer && same_links a.name name

-- the path is the grant whose LSP is to have the name: no report has bound it yet
abbrev pub is_grant_of_name : AwaitedName → Path → Bool
is_grant_of_name a x = is_unbound_grant a.peer (Some a.srp) x

-- A name is dropped with its grant: for each path that is dropped, the first such name is removed, and the last name
-- takes its place.
abbrev pub names_without : List AwaitedName → List Path → List AwaitedName
names_without names [] = names
names_without names (x ∷ gone) = names_without (without_first (λ a. is_grant_of_name a x) names) gone

-- ---- effects

abbrev pub is_empty : List Path → Bool
is_empty [] = true
is_empty (x ∷ xs) = false

abbrev pub moves_paths : Effect → Bool
moves_paths e = not (is_empty e.change.dropped && is_empty e.change.added)

-- the state after an effect on a peer's LSPs
abbrev pub affected : State → ℕ → Effect → State
affected s n e = record s { base = changed s.base n e; names = names_without s.names e.change.dropped; changes = if moves_paths e then s.changes + 1 else s.changes }
