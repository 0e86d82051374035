-- Paths that are asked for: to update an LSP (RFC 8231 section 5.8.2), to initiate one (RFC 8281 section 5.3), or to answer
-- a request (RFC 5440 section 6.4).
use Rattle.std.specs.Prelude.{ℕ, ◌+◌, Bool, false, ◌==◌, ◌||◌, not, nat_lt, List, [], ◌∷◌, ◌++◌, length, option_map, Option, Some, None, if◌then◌else◌}
use Rattle.std.specs.List.{list_any}
use Rattle.te_base.specs.Ted.{Ted}
use Rattle.te_snapshot.specs.Admissible.{node_of}
use Rattle.lsp_base.specs.Lsps.{lsp_at}
use Rattle.lsp_base.specs.Refusals.{unless, ◌⨟◌}
use Rattle.lsp_base.specs.declared.lsp.Constraints.{Constraints}
use Rattle.lsp_base.specs.declared.effect.Record.{Record}
use Rattle.lsp_base.specs.declared.why.Ends.{Ends}
use Rattle.lsp_base.specs.declared.why.Ends.TheVariants.{Source, Destination, Both}
use Rattle.lsp_base.specs.declared.why.Why.{Why}
use Rattle.lsp_base.specs.declared.why.Why.TheVariants.{UnknownLsp, Pending, TooManyTickets, UnknownNode}
use Rattle.delegate_rules.specs.Returns.{must_be_held}
use Rattle.initiate_rules.specs.Checks.{must_be_new}
use Rattle.commit_core.specs.declared.ticket.Purpose.{Purpose}
use Rattle.commit_core.specs.declared.ticket.Purpose.TheVariants as purposes
use Rattle.commit_core.specs.declared.ticket.Ticket.{Ticket}
use Rattle.ticket_table.specs.Tickets.{is_update_asked, is_name_asked}
use Rattle.step_core.specs.declared.event.Reply.TheVariants.{Asked, Refused}
use Rattle.step_core.specs.Outcomes.{Outcome, decided, must_be_up, must_take_updates, must_take_initiations}
use Rattle.step_core.specs.States.{State, peer_at, is_awaited_as}

-- the name is that of an LSP which the PCE asks for, or which it granted and no report has named yet
abbrev pub is_name_held : State → ℕ → List ℕ → Bool
is_name_held s n name = is_name_asked s.tickets n name || list_any (is_awaited_as n name) s.names

-- the tests for the purpose
abbrev pub may_be_asked : State → ℕ → Purpose → Option Why
may_be_asked s n (purposes.Update plsp) = must_take_updates s.peers n ⨟ must_be_held s.base n plsp ⨟ unless (not (is_update_asked s.tickets n plsp)) Pending
may_be_asked s n (purposes.Initiate name constraints) = must_take_initiations s.peers n ⨟ must_be_new s.base n name (is_name_held s n name)
may_be_asked s n (purposes.Answer request plsp constraints) = must_be_up s.peers n

-- what is asked of the path; for an update, what the LSP's record asks
abbrev pub constraints_for : List Record → ℕ → Purpose → Option Constraints
constraints_for records peer (purposes.Update plsp) = option_map (λ lsp. lsp.constraints) (lsp_at records peer plsp)
constraints_for records peer (purposes.Initiate name constraints) = Some constraints
constraints_for records peer (purposes.Answer request plsp constraints) = Some constraints

-- the ends that no node owns; a path that ends at the node at which it begins has no destination
abbrev pub missing_ends : Option ℕ → Option ℕ → Option Ends
missing_ends None None = Some Both
missing_ends None (Some to) = Some Source
missing_ends (Some from) None = Some Destination
missing_ends (Some from) (Some to) = if from == to then Some Destination else None

abbrev pub missing_ends_of : Ted → Constraints → Option Ends
missing_ends_of te c = missing_ends (node_of te.owners c.source) (node_of te.owners c.destination)

-- nodes own both ends of the path, and they are two different nodes
abbrev pub must_have_ends : Ted → Constraints → Option Why
must_have_ends te c = option_map UnknownNode (missing_ends_of te c)

-- there are at most 1,024 tickets
abbrev pub may_have_one_more : List Ticket → Option Why
may_have_one_more tickets = unless (nat_lt (length tickets) 1024) TooManyTickets

-- the next ticket, which waits to be searched for
abbrev pub new_ticket : State → ℕ → Purpose → Constraints → Ticket
new_ticket s n purpose c = record { id = s.last_ticket + 1; peer = n; session = (peer_at s.peers n).session; purpose = purpose; constraints = c; tries = 0; seen = 0; taken = false }

abbrev pub with_ticket : State → Ticket → Outcome
with_ticket s t = record { state = record s { tickets = s.tickets ++ t ∷ []; last_ticket = t.id }; reply = Asked t.id }

abbrev pub asked_with : State → ℕ → Purpose → Option Constraints → Outcome
asked_with s n purpose None = record { state = s; reply = Refused UnknownLsp }
asked_with s n purpose (Some c) = decided s (must_have_ends s.te c ⨟ may_have_one_more s.tickets) (with_ticket s (new_ticket s n purpose c))

abbrev pub ask_step : State → ℕ → Purpose → Outcome
ask_step s n purpose = decided s (may_be_asked s n purpose) (asked_with s n purpose (constraints_for s.base.records n purpose))
