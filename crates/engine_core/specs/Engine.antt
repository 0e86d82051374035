-- What the engine does with what a session gives: what it shows the store, which events it submits for a peer, and,
-- depending on their replies, what it sends and when it ends the session. `go_on` is what comes afterwards. `Reaches c`
-- stands wherever memory may run out, with the client as it then is.
use Rattle.std.specs.Prelude.{ℕ, suc, zero, Bool, true, false, ◌==◌, ◌&&◌, not, List, [], ◌∷◌, Option, Some, None, if◌then◌else◌}
use Rattle.lsp_words.specs.declared.object.Capabilities.{Capabilities}
use Rattle.lsp_words.specs.declared.object.Hop.{Hop}
use Rattle.pcep_messages.specs.declared.fault.About.{About}
use Rattle.pcep_messages.specs.declared.fault.About.TheVariants as about
use Rattle.pcep_messages.specs.declared.message.Message.{Message}
use Rattle.pcep_messages.specs.declared.message.Message.TheVariants as messages
use Rattle.pcep_messages.specs.declared.message.PathRequest.{PathRequest}
use Rattle.pcep_messages.specs.declared.message.StateReport.{StateReport}
use Rattle.pcep_objects.specs.declared.request_objects.NoPathVector.{NoPathVector}
use Rattle.pcep_objects.specs.declared.session_objects.Open.{Open}
use Rattle.commit_core.specs.declared.ticket.Purpose.TheVariants as purposes
use Rattle.pcep_messages.specs.declared.notice.PcError.{PcError}
use Rattle.pcep_session.specs.Calls.{begun, fed, sent, error_reported, ended_by}
use Rattle.pcep_session.specs.Runs.{or_same}
use Rattle.pcep_session.specs.Turns.{next, is_up, is_closed}
use Rattle.pcep_session.specs.Ends.{most_turns}
use Rattle.pcep_session.specs.declared.contents.Contents.{Contents}
use Rattle.pcep_session.specs.declared.table.Input.{Input}
use Rattle.pcep_session.specs.declared.table.Input.TheVariants as input
use Rattle.lsp_base.specs.declared.why.Why.{Why}
use Rattle.lsp_base.specs.declared.why.Why.TheVariants.{PeerUp, TooManyPeers}
use Rattle.step_core.specs.declared.event.Event.{Event}
use Rattle.step_core.specs.declared.event.Event.TheVariants as event
use Rattle.step_core.specs.declared.event.Reply.{Reply}
use Rattle.step_core.specs.declared.event.Reply.TheVariants.{Done, Booked, Refused, Out}
use Rattle.engine_core.specs.Requests.{purpose_of, vector_for, no_path_for}
use Rattle.engine_core.specs.Deeds.{Opened, Delivered}
use Rattle.engine_core.specs.Plans.{Plan, Returns, Reaches, Shows, submitting}
use Rattle.engine_core.specs.declared.client.Client.{Client}

-- the client whose session is now this one
abbrev pub client_with : Contents → Client → Client
client_with s c = record c { session = s }

-- a session that begins: its peer isn't joined yet
abbrev pub new_client : ℕ → Client
new_client now_ms = record { session = begun now_ms; joined = false }

-- the session ends, with a PCErr and a Close as given; one that has ended stays as it is
abbrev pub ending : Option PcError → Option ℕ → Client → Client
ending error reason c = client_with (or_same c.session (ended_by error reason c.session)) c

-- a PCErr is sent, and the session goes on
abbrev pub saying : PcError → Client → Client
saying error c = client_with (or_same c.session (error_reported error c.session)) c

-- a message whose lengths don't fit is left out
abbrev pub sending_one : Client → Message → Client
sending_one c message = client_with (or_same c.session (sent message c.session)) c

-- ---- Up

-- the peer has a session already (RFC 5440 section 7.15, Error-Type 9)
abbrev pub second_session : PcError
second_session = record { about = about.Nothing; kind = 9; value = 0 }

-- a second session of a peer that is up ends with a PCErr; a session of one peer too many ends with a Close (1: no
-- explanation)
abbrev pub after_refused_up : Why → Client → Client
after_refused_up PeerUp c = ending (Some second_session) None c
after_refused_up TooManyPeers c = ending None (Some 1) c
after_refused_up why c = c

-- an accepted Up joins the peer
unfoldable pub after_up : Reply → Client → Client
after_up Done c = record c { joined = true }
after_up (Refused why) c = after_refused_up why c
after_up reply c = c

-- the peer's Open is shown
abbrev pub showing_open : {W : Type 0} → Option Open → Plan W → Plan W
showing_open None plan = plan
showing_open (Some open_) plan = Shows (Opened open_) plan

abbrev pub joining : {W : Type 0} → ℕ → Option Capabilities → Client → (Client → Plan W) → Plan W
joining peer capabilities c go_on = submitting c (event.Up peer capabilities) (λ reply. go_on (after_up reply c))

abbrev pub on_up : {W : Type 0} → ℕ → Option Capabilities → Client → (Client → Plan W) → Plan W
on_up peer capabilities c go_on = showing_open c.session.peer (joining peer capabilities c go_on)

-- ---- reports (RFC 8231 section 6.1)

abbrev pub is_empty : List Hop → Bool
is_empty [] = true
is_empty (hop ∷ hops) = false

-- the end of synchronization: PLSP-ID 0, S clear, an empty ERO (RFC 8231 section 5.6)
abbrev pub is_end_of_sync : StateReport → Bool
is_end_of_sync r = r.plsp == 0 && not r.sync && is_empty r.ero

abbrev pub event_of : ℕ → StateReport → Event
event_of peer r = if is_end_of_sync r then event.Marker peer else event.Report peer r

-- the request that a report answers; SRP-ID 0 names none (RFC 8231 section 7.2)
abbrev pub srp_about : Option ℕ → About
srp_about None = about.Nothing
srp_about (Some id) = if id == 0 then about.Nothing else about.Srp id

-- the PCE cannot process a report (RFC 8231 section 8.5, Error-Type 20)
abbrev pub cannot_process : Option ℕ → PcError
cannot_process srp = record { about = srp_about srp; kind = 20; value = 1 }

-- a path is asked for, to update the LSP; the reply doesn't matter to the session
abbrev pub on_wanted : {W : Type 0} → ℕ → ℕ → Client → (Client → Plan W) → Plan W
on_wanted peer plsp c go_on = submitting c (event.Ask peer (purposes.Update plsp)) (λ reply. go_on c)

-- the reply to a report: if the LSP waits for a path, one is asked for; if the report is refused, it is answered; then
-- the session goes on
unfoldable pub after_report : {W : Type 0} → ℕ → ℕ → Option ℕ → Reply → Client → (Client → Plan W) → Plan W
after_report peer plsp srp (Booked wants) c go_on = if wants then on_wanted peer plsp c go_on else go_on c
after_report peer plsp srp (Refused why) c go_on = Reaches c (go_on (saying (cannot_process srp) c))
after_report peer plsp srp reply c go_on = go_on c

abbrev pub on_report : {W : Type 0} → ℕ → StateReport → Client → (Client → Plan W) → Plan W
on_report peer r c go_on = submitting c (event_of peer r) (λ reply. after_report peer r.plsp r.srp reply c go_on)

abbrev pub on_reports : {W : Type 0} → ℕ → List StateReport → Client → (Client → Plan W) → Plan W
on_reports peer [] c go_on = go_on c
on_reports peer (r ∷ rs) c go_on = on_report peer r c (λ after. on_reports peer rs after go_on)

-- ---- errors (RFC 5440 section 6.7, RFC 8231 section 6.3)

-- the peer refused the request of this SRP-ID; the reply doesn't matter to the session
abbrev pub on_refusal : {W : Type 0} → ℕ → ℕ → Client → (Client → Plan W) → Plan W
on_refusal peer srp c go_on = submitting c (event.Refused peer srp) (λ reply. go_on c)

abbrev pub on_refusals : {W : Type 0} → ℕ → List ℕ → Client → (Client → Plan W) → Plan W
on_refusals peer [] c go_on = go_on c
on_refusals peer (srp ∷ srps) c go_on = on_refusal peer srp c (λ after. on_refusals peer srps after go_on)

-- ---- path requests (RFC 5440 section 6.4)

-- a refused request is answered, if there is an answer that says why
abbrev pub answered_why : ℕ → Option NoPathVector → Client → Client
answered_why request None c = c
answered_why request (Some vector) c = sending_one c (no_path_for request vector)

abbrev pub refused_request : ℕ → Why → Client → Client
refused_request request why c = answered_why request (vector_for why) c

-- the reply to a request: if there can't be a path, it is answered at once
unfoldable pub after_request : {W : Type 0} → ℕ → Reply → Client → (Client → Plan W) → Plan W
after_request request (Refused why) c go_on = Reaches c (go_on (refused_request request why c))
after_request request reply c go_on = go_on c

abbrev pub on_request : {W : Type 0} → ℕ → PathRequest → Client → (Client → Plan W) → Plan W
on_request peer r c go_on = submitting c (event.Ask peer (purpose_of r)) (λ reply. after_request r.request reply c go_on)

abbrev pub on_requests : {W : Type 0} → ℕ → List PathRequest → Client → (Client → Plan W) → Plan W
on_requests peer [] c go_on = go_on c
on_requests peer (r ∷ rs) c go_on = on_request peer r c (λ after. on_requests peer rs after go_on)

-- ---- messages

-- the events that a message leads to
abbrev pub taking : {W : Type 0} → ℕ → Message → Client → (Client → Plan W) → Plan W
taking peer (messages.Report reports) c go_on = on_reports peer reports c go_on
taking peer (messages.Request requests) c go_on = on_requests peer requests c go_on
taking peer (messages.Error errors) c go_on = on_refusals peer errors.srps c go_on
taking peer message c go_on = go_on c

-- each message that is delivered is shown once, before its events
abbrev pub on_message : {W : Type 0} → ℕ → Message → Client → (Client → Plan W) → Plan W
on_message peer message c go_on = Shows (Delivered message) (taking peer message c go_on)

-- ---- Down

abbrev pub on_down : {W : Type 0} → ℕ → Client → (Client → Plan W) → Plan W
on_down peer c go_on = if c.joined then submitting c (event.Down peer) (λ reply. go_on (record c { joined = false })) else go_on c

-- ---- what a session gives

unfoldable pub on_input : {W : Type 0} → ℕ → Input → Client → (Client → Plan W) → Plan W
on_input peer (input.Up capabilities) c go_on = on_up peer capabilities c go_on
on_input peer (input.Message message) c go_on = on_message peer message c go_on
on_input peer input.Down c go_on = on_down peer c go_on
on_input peer input.Handled c go_on = go_on c

-- one turn of the session: what it gives is handled, and then the plan goes on; or nothing is left to handle
abbrev pub turned : {W : Type 0} → ℕ → Option Input → Client → (Client → Plan W) → (Client → Plan W) → Plan W
turned peer None c again go_on = go_on c
turned peer (Some given) c again go_on = on_input peer given c again

-- all that the session gives is handled in order, in at most n turns
abbrev pub turns : {W : Type 0} → ℕ → ℕ → Client → (Client → Plan W) → Plan W
turns zero peer c go_on = go_on c
turns (suc most) peer c go_on =
    Reaches c (turned peer (next c.session).input (client_with (next c.session).after c) (λ after. turns most peer after go_on) go_on)

-- ---- what waits for the peer

abbrev pub messages_of : Reply → List Message
messages_of (Out messages) = messages
messages_of reply = []

abbrev pub sending : {W : Type 0} → List Message → Client → (Client → Plan W) → Plan W
sending [] c go_on = go_on c
sending (message ∷ messages) c go_on = Reaches c (sending messages (sending_one c message) go_on)

abbrev pub draining : {W : Type 0} → ℕ → Client → (Client → Plan W) → Plan W
draining peer c go_on =
    if is_up c.session.state then submitting c (event.Drain peer) (λ reply. sending (messages_of reply) c go_on) else go_on c

-- ---- the calls

-- Bytes of the peer come at a moment: the session handles all of them, and then what waits for the peer is sent. A
-- session that has ended does nothing.
abbrev pub served_from : {W : Type 0} → ℕ → Client → (Client → Plan W) → Plan W
served_from peer c go_on = turns (most_turns c.session) peer c (λ after. draining peer after go_on)

unfoldable pub served : ℕ → List ℕ → ℕ → Client → Plan Client
served peer piece now_ms c =
    if is_closed c.session.state then Returns c else Reaches c (served_from peer (client_with (fed piece now_ms c.session) c) Returns)

-- the transport has ended: a peer that is joined goes down, and the session ends
unfoldable pub hung_up : ℕ → Client → Plan Client
hung_up peer c = on_down peer c (λ after. Returns (ending None None after))
