-- What the PCE searches for and grants: a ticket is taken, its search runs without the database, and the offer is
-- committed.
use Rattle.std.specs.Prelude.{ℕ, false, List, [], ◌∷◌, ◌++◌, length, option_map, unwrap_or, Option, Some, None}
use Rattle.te_base.specs.Ted.{Ted}
use Rattle.te_base.specs.declared.network.Link.{Link}
use Rattle.te_snapshot.specs.Admissible.{cost_of}
use Rattle.te_snapshot.specs.Left.{state_beside}
use Rattle.te_snapshot.specs.Network.{NetworkState, network_of}
use Rattle.te_snapshot.specs.Own.{own_shares}
use Rattle.te_snapshot.specs.declared.own.OwnShare.{OwnShare}
use Rattle.lsp_base.specs.Lsps.{Lsps, effect_of}
use Rattle.lsp_base.specs.Refusals.{unless}
use Rattle.lsp_base.specs.declared.effect.Effect.{Effect}
use Rattle.lsp_base.specs.declared.lsp.Constraints.{Constraints}
use Rattle.lsp_base.specs.declared.path.Path.{Path}
use Rattle.lsp_base.specs.declared.tunnel.Tunnel.{Tunnel}
use Rattle.lsp_base.specs.declared.why.Why.TheVariants.{UnknownTicket, NotTaken}
use Rattle.initiate_rules.specs.Messages.{update_message, initiate_message, answer_message, no_path_message}
use Rattle.initiate_rules.specs.Numbers.{is_srp_used}
use Rattle.pcep_messages.specs.declared.message.Message.{Message}
use Rattle.commit_core.specs.Offers.{offered_path, own_tunnel}
use Rattle.commit_core.specs.Verdicts.{verdict}
use Rattle.commit_core.specs.declared.ticket.Purpose.{Purpose}
use Rattle.commit_core.specs.declared.ticket.Purpose.TheVariants as purposes
use Rattle.commit_core.specs.declared.ticket.Ticket.{Ticket}
use Rattle.commit_core.specs.declared.verdict.PeerView.{PeerView}
use Rattle.commit_core.specs.declared.verdict.Verdict.{Verdict}
use Rattle.commit_core.specs.declared.verdict.Verdict.TheVariants as verdicts
use Rattle.step_core.specs.declared.event.Reply.TheVariants.{Job as JobOf, Idle, Granted, Answered, Again, NoPath, GivenUp, Gone, Refused}
use Rattle.step_core.specs.declared.job.Job.{Job}
use Rattle.step_core.specs.declared.names.AwaitedName.{AwaitedName}
use Rattle.step_core.specs.Outcomes.{Outcome, decided}
use Rattle.step_core.specs.States.{State, peer_at, put_peer, asked, with_message, next_number, affected}
use Rattle.ticket_table.specs.Tickets.{first_waiting, ticket_at, searched_for, take_first, put_back, without_ticket}

-- ---- a ticket is taken

-- the network with what is left on its links
abbrev pub snapshot_of : Ted → Lsps → NetworkState
snapshot_of te lsps = state_beside (network_of te) lsps.paths

-- what the tunnel reserves; nothing if there is none
abbrev pub held_by : List Path → ℕ → Option Tunnel → List OwnShare
held_by paths links None = []
held_by paths links (Some tunnel) = own_shares paths tunnel links

-- what the tunnel of the ticket's LSP reserves already
abbrev pub own_of : Ted → Lsps → Ticket → List OwnShare
own_of te lsps t = held_by lsps.paths (length te.links) (own_tunnel lsps.records t.peer t.purpose)

abbrev pub job_of : State → Ticket → Job
job_of s t = record { ticket = t; snapshot = snapshot_of s.te s.base; own = own_of s.te s.base t }

abbrev pub taken : State → Option Ticket → Outcome
taken s None = record { state = s; reply = Idle }
taken s (Some t) = record { state = record s { tickets = take_first s.tickets s.changes }; reply = JobOf (job_of s (searched_for s.changes t)) }

abbrev pub take_step : State → Outcome
take_step s = taken s (first_waiting s.tickets)

-- ---- what a grant and an answer do

-- the state after an effect on a peer's LSPs, for which a message asks the peer under its next number
abbrev pub asking : State → ℕ → Effect → Message → State
asking s n e message = record (affected s n e) { peers = put_peer s.peers (asked (peer_at s.peers n) message) }

-- the state after a message without a number waits for a peer
abbrev pub saying : State → ℕ → Message → State
saying s n message = record s { peers = put_peer s.peers (with_message (peer_at s.peers n) message) }

-- the state without the ticket
abbrev pub ended : State → Ticket → State
ended s t = record s { tickets = without_ticket s.tickets t.id }

-- the effect that adds one path, and nothing else
abbrev pub granting : Path → Effect
granting g = effect_of [] (g ∷ []) [] false

-- what the peer is sent if the offer is accepted: an update, an initiation, or the reply to its request
abbrev pub message_of : List Link → ℕ → Constraints → List ℕ → Purpose → Message
message_of links srp c numbers (purposes.Update plsp) = update_message links srp plsp c numbers
message_of links srp c numbers (purposes.Initiate name constraints) = initiate_message links srp name c numbers
message_of links srp c numbers (purposes.Answer request plsp constraints) = answer_message links request c.minimise (cost_of c.minimise links numbers) numbers

-- the name of an initiation is held until a report names its LSP
abbrev pub name_of_grant : ℕ → ℕ → Purpose → Option AwaitedName
name_of_grant n srp (purposes.Update plsp) = None
name_of_grant n srp (purposes.Initiate name constraints) = Some (record { peer = n; srp = srp; name = name })
name_of_grant n srp (purposes.Answer request plsp constraints) = None

abbrev pub with_name : List AwaitedName → Option AwaitedName → List AwaitedName
with_name names None = names
with_name names (Some a) = names ++ a ∷ []

-- ---- the search's answer is judged by the state as it is now

abbrev pub view_of : State → ℕ → PeerView
view_of s n = let p = peer_at s.peers n in record { session = p.session; up = p.up; syncing = p.syncing; changes = s.changes; srp_in_use = is_srp_used s.base n (next_number s n) }

-- the path that a grant of these links adds
abbrev pub path_of : State → Ticket → List ℕ → Path
path_of s t links = offered_path s.base.records (next_number s t.peer) t links

abbrev pub verdict_on : State → Ticket → Option (List ℕ) → Verdict
verdict_on s t offer = verdict t (option_map (path_of s t) offer) s.base s.te (view_of s t.peer)

-- the path is granted, and the peer is asked for it
abbrev pub granted : State → Ticket → List ℕ → State
granted s t links =
    let srp = next_number s t.peer in
    let message = message_of s.te.links srp t.constraints links t.purpose in
    record (asking (ended s t) t.peer (granting (path_of s t links)) message) { names = with_name s.names (name_of_grant t.peer srp t.purpose) }

-- the request is answered, and nothing is booked
abbrev pub answered : State → Ticket → List ℕ → State
answered s t links = saying (ended s t) t.peer (message_of s.te.links (next_number s t.peer) t.constraints links t.purpose)

-- there is no path; a request is answered with that
abbrev pub answered_in_vain : State → ℕ → Purpose → State
answered_in_vain s n (purposes.Update plsp) = s
answered_in_vain s n (purposes.Initiate name constraints) = s
answered_in_vain s n (purposes.Answer request plsp constraints) = saying s n (no_path_message request)

abbrev pub in_vain : State → Ticket → State
in_vain s t = answered_in_vain (ended s t) t.peer t.purpose

-- a ticket whose offer must be searched for again waits; each other verdict ends the ticket
abbrev pub judged : State → Ticket → List ℕ → Verdict → Outcome
judged s t links verdicts.Grant = record { state = granted s t links; reply = Granted (next_number s t.peer) }
judged s t links verdicts.Answer = record { state = answered s t links; reply = Answered }
judged s t links verdicts.Again = record { state = record s { tickets = put_back s.tickets t.id }; reply = Again }
judged s t links verdicts.NoPath = record { state = in_vain s t; reply = NoPath }
judged s t links verdicts.GivenUp = record { state = in_vain s t; reply = GivenUp }
judged s t links verdicts.Gone = record { state = ended s t; reply = Gone }

abbrev pub committed : State → Option (List ℕ) → Option Ticket → Outcome
committed s offer None = record { state = s; reply = Refused UnknownTicket }
committed s offer (Some t) = decided s (unless t.taken NotTaken) (judged s t (unwrap_or offer []) (verdict_on s t offer))

abbrev pub commit_step : State → ℕ → Option (List ℕ) → Outcome
commit_step s id offer = committed s offer (ticket_at s.tickets id)
