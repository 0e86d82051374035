-- One turn of a session: it handles its next whole message, else the timer that is due, else nothing.
use Rattle.std.specs.Prelude.{◌≡◌, ℕ, ◌-◌, ◌*◌, Bool, true, false, not, ◌&&◌, ◌||◌, List, [], ◌∷◌, ◌++◌, length, take, drop, filter, slice_index, Option, Some, None, is_some, Result, Ok, Err, nat_lt, ◌==◌, if◌then◌else◌}
use Rattle.lsp_words.specs.declared.object.Capabilities.{Capabilities}
use Rattle.pcep_objects.specs.declared.session_objects.Open.{Open}
use Rattle.pcep_messages.specs.Messages.{message_in}
use Rattle.pcep_messages.specs.Notices.{notice_text}
use Rattle.pcep_messages.specs.declared.fault.MessageFault.{MessageFault}
use Rattle.pcep_messages.specs.declared.message.Message.{Message}
use Rattle.pcep_messages.specs.declared.message.Message.TheVariants as messages
use Rattle.pcep_session.specs.Framing.{front_of}
use Rattle.pcep_session.specs.Table.{reaction, due, on_timer}
use Rattle.pcep_session.specs.declared.contents.Contents.{Contents}
use Rattle.pcep_session.specs.declared.framing.NextMessage.{NextMessage}
use Rattle.pcep_session.specs.declared.framing.NextMessage.TheVariants.{Waiting, Bad, Whole}
use Rattle.pcep_session.specs.declared.table.Arrival.{Arrival}
use Rattle.pcep_session.specs.declared.table.Arrival.TheVariants.{BadHeader, Unrecognized, UnannouncedReport, Read, Faulty}
use Rattle.pcep_session.specs.declared.table.EndReason.{EndReason}
use Rattle.pcep_session.specs.declared.table.Input.{Input}
use Rattle.pcep_session.specs.declared.table.Input.TheVariants as input
use Rattle.pcep_session.specs.declared.table.Notices.{Notices}
use Rattle.pcep_session.specs.declared.table.Notices.TheVariants.{Nothing, One, Two}
use Rattle.pcep_session.specs.declared.table.Reaction.{Reaction}
use Rattle.pcep_session.specs.declared.table.State.{State}
use Rattle.pcep_session.specs.declared.table.State.TheVariants.{Up, Closed}
use Rattle.pcep_session.specs.declared.table.Timer.{Timer}

abbrev pub is_up : State → Bool
is_up Up = true
is_up state = false

abbrev pub is_closed : State → Bool
is_closed Closed = true
is_closed state = false

-- the capabilities of the peer's Open
abbrev pub capabilities_of : Option Open → Option Capabilities
capabilities_of None = None
capabilities_of (Some open_) = open_.capabilities

-- A session that is up looks at the type first: the body of an Open, PCRep, PCUpd, PCInitiate or an unknown type isn't
-- read. The others are Keepalive, PCReq, PCNtf, PCErr, Close and PCRpt.
abbrev pub is_read_when_up : ℕ → Bool
is_read_when_up kind = kind == 2 || kind == 3 || kind == 5 || kind == 6 || kind == 7 || kind == 10

abbrev pub arrival_of : Result Message MessageFault → Arrival
arrival_of (Ok message) = Read message
arrival_of (Err fault) = Faulty fault

abbrev pub arrival_when_up : Bool → List ℕ → Arrival
arrival_when_up stateful message =
    if not (is_read_when_up (slice_index message 1)) then Unrecognized
    else (if slice_index message 1 == 10 && not stateful then UnannouncedReport else arrival_of (message_in message))

-- A whole message that comes in this state. The flag says whether the peer's Open had STATEFUL-PCE-CAPABILITY.
unfoldable pub arrival : State → Bool → List ℕ → Arrival
arrival Up stateful message = arrival_when_up stateful message
arrival state stateful message = arrival_of (message_in message)

-- the moments that are less than 60,000 ms ago
abbrev pub recent : ℕ → List ℕ → List ℕ
recent now_ms moments = filter (λ m. nat_lt (now_ms - m) 60000) moments

-- there are four recent ones, so that one more is the fifth
abbrev pub is_fifth : ℕ → List ℕ → Bool
is_fifth now_ms moments = nat_lt 3 (length (recent now_ms moments))

abbrev pub unrecognized_after : Arrival → ℕ → List ℕ → List ℕ
unrecognized_after Unrecognized now_ms moments = recent now_ms moments ++ now_ms ∷ []
unrecognized_after arrival now_ms moments = moments

-- the peer's Open after this arrival
abbrev pub peer_after : Arrival → Option Open → Option Open
peer_after (Read (messages.Opening open_)) peer = Some open_
peer_after arrival peer = peer

abbrev pub notices_text : Notices → List ℕ
notices_text Nothing = []
notices_text (One notice) = notice_text notice
notices_text (Two first second) = notice_text first ++ notice_text second

abbrev pub sent_at : Notices → ℕ → ℕ → ℕ
sent_at Nothing now_ms sent_ms = sent_ms
sent_at notices now_ms sent_ms = now_ms

-- the notices go into the output
abbrev pub sending : Notices → Contents → Contents
sending notices c = record c { sent_ms = sent_at notices c.moment_ms c.sent_ms; output = c.output ++ notices_text notices }

-- a message of `size` bytes is handled; a bad header takes no bytes
abbrev pub received : Arrival → ℕ → Contents → Contents
received a size c = record c {
  bytes = drop size c.bytes;
  received_ms = c.moment_ms;
  unrecognized = unrecognized_after a c.moment_ms c.unrecognized;
  peer = peer_after a c.peer;
}

-- a session that ends forgets the bytes that it hasn't handled
abbrev pub kept_bytes : State → List ℕ → List ℕ
kept_bytes Closed bytes = []
kept_bytes state bytes = bytes

abbrev pub going_to : State → Option EndReason → Contents → Contents
going_to state end c = record c { state = state; bytes = kept_bytes state c.bytes; end = end }

-- a turn: what the caller gets, and the session after it
pub record Turn : Type 0 where
  pub input : Option Input
  pub after : Contents

abbrev pub IsTurn : Turn → Option Input → Contents → Type 0
IsTurn turn input after = turn ≡ record { input = input; after = after }

abbrev pub turn_by : Reaction → Contents → Turn
turn_by r c = record { input = Some r.input; after = going_to r.state r.end (sending r.notices c) }

abbrev pub reaction_to : Arrival → Contents → Reaction
reaction_to a c = reaction c.state (capabilities_of c.peer) (is_fifth c.moment_ms c.unrecognized) a

abbrev pub on_arrival : Arrival → ℕ → Contents → Turn
on_arrival a size c = turn_by (reaction_to a c) (received a size c)

-- a timer is due exactly at its age
abbrev pub is_due : ℕ → ℕ → Bool
is_due after_ms age_ms = not (nat_lt age_ms after_ms)

-- nothing was received for the peer's DeadTimer, in seconds; 0: the timer never ends the session (RFC 5440 section 7.3)
abbrev pub is_silent : Option Open → ℕ → Bool
is_silent None age_ms = false
is_silent (Some open_) age_ms = not (open_.dead_timer == 0) && is_due (open_.dead_timer * 1000) age_ms

abbrev pub due_in : Contents → Option Timer
due_in c =
    due c.state (is_due 60000 (c.moment_ms - c.received_ms)) (is_silent c.peer (c.moment_ms - c.received_ms)) (is_due 30000 (c.moment_ms - c.sent_ms))

abbrev pub by_timer : Option Timer → Contents → Turn
by_timer None c = record { input = None; after = c }
by_timer (Some timer) c = turn_by (on_timer timer) c

abbrev pub by_front : NextMessage → Contents → Turn
by_front Waiting c = by_timer (due_in c) c
by_front Bad c = on_arrival BadHeader 0 c
by_front (Whole size) c = on_arrival (arrival c.state (is_some (capabilities_of c.peer)) (take size c.bytes)) size c

-- a session that has ended gives the Down that is pending
abbrev pub after_end : Bool → Contents → Turn
after_end true c = record { input = Some input.Down; after = record c { down_pending = false } }
after_end false c = record { input = None; after = c }

abbrev pub next_in : State → Contents → Turn
next_in Closed c = after_end c.down_pending c
next_in state c = by_front (front_of c.bytes) c

abbrev pub next : Contents → Turn
next c = next_in c.state c
