-- What holds for every step.
use Rattle.std.specs.Prelude.{ℕ, ◌≡◌, ◌≢◌, ◌+◌, ◌≤◌, pos, ◌+ℤ◌, ◌-ℤ◌, Bool, true, ◌==◌, not, filter, Option, Some, None, option_map, IsPermutation}
use Rattle.lsp_base.specs.Lsps.{lsp_at}
use Rattle.lsp_base.specs.Shares.{reservable, unreserved}
use Rattle.step_core.specs.declared.event.Event.{Event}
use Rattle.step_core.specs.declared.event.Event.TheVariants.{Up, Report, Marker, Down, Expire, Drain, Refused, Return, Delete, Ask, Take, Commit, Reload}
use Rattle.commit_core.specs.declared.ticket.Ticket.{Ticket}
use Rattle.link_reload.specs.declared.entry.LinkReload.{LinkReload}
use Rattle.step_core.specs.States.{State}
use Rattle.ticket_table.specs.Tickets.{first_waiting, ticket_at}

abbrev pub peer_of_ticket : Option Ticket → Option ℕ
peer_of_ticket ticket = option_map (λ t. t.peer) ticket

-- The peer of an event in a state: for a ticket, the ticket's peer. If there is no such ticket, the event has no peer;
-- nor has a reload of links.
abbrev pub peer_of : State → Event → Option ℕ
peer_of s (Up n sent) = Some n
peer_of s (Report n r) = Some n
peer_of s (Marker n) = Some n
peer_of s (Down n) = Some n
peer_of s (Expire n) = Some n
peer_of s (Drain n) = Some n
peer_of s (Refused n srp) = Some n
peer_of s (Return n plsp) = Some n
peer_of s (Delete n plsp) = Some n
peer_of s (Ask n purpose) = Some n
peer_of s Take = peer_of_ticket (first_waiting s.tickets)
peer_of s (Commit id offer) = peer_of_ticket (ticket_at s.tickets id)
peer_of s (Reload entries) = None

-- the number is another peer's; if an event has no peer, each number is
abbrev pub is_other : Option ℕ → ℕ → Bool
is_other None m = true
is_other (Some n) m = not (m == n)

-- All other peers keep their paths, their records and the names of what they were asked for, in any order, and what is
-- known about each of their LSPs. They also keep their sessions, what waits to be sent to them, and the tickets of what
-- they are to be asked for, in the same order.
pub record OthersStay (peer : Option ℕ) (old new : State) : Type 0 where
  pub paths : IsPermutation (filter (λ x. is_other peer x.peer) old.base.paths) (filter (λ x. is_other peer x.peer) new.base.paths)
  pub records : IsPermutation (filter (λ r. is_other peer r.peer) old.base.records) (filter (λ r. is_other peer r.peer) new.base.records)
  pub known : (m plsp : ℕ) → is_other peer m ≡ true → lsp_at new.base.records m plsp ≡ lsp_at old.base.records m plsp
  pub peers : filter (λ p. is_other peer p.number) new.peers ≡ filter (λ p. is_other peer p.number) old.peers
  pub names : IsPermutation (filter (λ a. is_other peer a.peer) old.names) (filter (λ a. is_other peer a.peer) new.names)
  pub tickets : filter (λ t. is_other peer t.peer) new.tickets ≡ filter (λ t. is_other peer t.peer) old.tickets

-- the three counts rise by at most one, and none falls, so the number of a session or a ticket is never used again
pub record CountsRise (old new : State) : Type 0 where
  pub changes_kept : old.changes ≤ new.changes
  pub changes_rise : new.changes ≤ old.changes + 1
  pub sessions_kept : old.last_session ≤ new.last_session
  pub sessions_rise : new.last_session ≤ old.last_session + 1
  pub tickets_kept : old.last_ticket ≤ new.last_ticket
  pub tickets_rise : new.last_ticket ≤ old.last_ticket + 1

-- what is unreserved on the entry's link has changed, at each priority, by the difference of the two reservable
-- bandwidths; on no other link has it changed
pub record MovesAlone (entry : LinkReload) (old new : State) : Type 0 where
  pub there : (p : ℕ) → unreserved new.te.links new.base.paths entry.link p ≡ unreserved old.te.links old.base.paths entry.link p +ℤ (pos (entry.values).reservable -ℤ pos (reservable old.te.links entry.link))
  pub elsewhere : (l p : ℕ) → l ≢ entry.link → unreserved new.te.links new.base.paths l p ≡ unreserved old.te.links old.base.paths l p

-- the states differ only in the order of their lists: both have the same paths, records and names, and all else is
-- equal, also what waits to be sent to each peer
pub record AreAlike (s t : State) : Type 0 where
  pub paths : IsPermutation s.base.paths t.base.paths
  pub records : IsPermutation s.base.records t.base.records
  pub names : IsPermutation s.names t.names
  pub te : s.te ≡ t.te
  pub peers : s.peers ≡ t.peers
  pub tickets : s.tickets ≡ t.tickets
  pub changes : s.changes ≡ t.changes
  pub last_session : s.last_session ≡ t.last_session
  pub last_ticket : s.last_ticket ≡ t.last_ticket
