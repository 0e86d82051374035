-- The calls of a session, each one step on its contents. `next` is in Turns.
use Rattle.std.specs.Prelude.{◌≡◌, ℕ, max, true, false, ◌&&◌, List, [], ◌∷◌, ◌++◌, Option, Some, None, Result, Ok, Err, if◌then◌else◌}
use Rattle.pcep_messages.specs.Notices.{error_text, notice_text}
use Rattle.pcep_messages.specs.Spelling.{is_written, fits, written}
use Rattle.pcep_messages.specs.declared.message.Message.{Message}
use Rattle.pcep_messages.specs.declared.message.Message.TheVariants as messages
use Rattle.pcep_messages.specs.declared.notice.PcError.{PcError}
use Rattle.pcep_messages.specs.declared.notice.Notice.TheVariants.{Close}
use Rattle.pcep_session.specs.Turns.{is_closed}
use Rattle.pcep_session.specs.declared.contents.Contents.{Contents}
use Rattle.pcep_session.specs.declared.fault.SessionFault.{SessionFault}
use Rattle.pcep_session.specs.declared.fault.SessionFault.TheVariants as faults
use Rattle.pcep_session.specs.declared.table.EndReason.TheVariants.{Caller}
use Rattle.pcep_session.specs.declared.table.State.{State}
use Rattle.pcep_session.specs.declared.table.State.TheVariants.{OpenWait, Up, Closed}

-- The session's own Open (RFC 5440 section 6.2): Keepalive 30 s, DeadTimer 120 s, SID 0, and
-- STATEFUL-PCE-CAPABILITY with U and I (RFC 8231 section 7.1.1, RFC 8281 section 4.1).
abbrev pub own_open : List ℕ
own_open = 0x20 ∷ 1 ∷ 0 ∷ 20 ∷ 1 ∷ 0x10 ∷ 0 ∷ 16 ∷ 0x20 ∷ 30 ∷ 120 ∷ 0 ∷ 0 ∷ 16 ∷ 0 ∷ 4 ∷ 0 ∷ 0 ∷ 0 ∷ 5 ∷ []

-- the same Open as a message
abbrev pub own_opening : Message
own_opening = messages.Opening (record { keepalive = 30; dead_timer = 120; sid = 0; capabilities = Some (record { update = true; create = true }) })

-- the call `new`
abbrev pub begun : ℕ → Contents
begun now_ms = record {
  state = OpenWait;
  bytes = [];
  moment_ms = now_ms;
  received_ms = now_ms;
  sent_ms = now_ms;
  unrecognized = [];
  peer = None;
  end = None;
  down_pending = false;
  output = own_open;
}

-- the call `tick`: a smaller moment is ignored
abbrev pub ticked : ℕ → Contents → Contents
ticked now_ms c = record c { moment_ms = max c.moment_ms now_ms }

-- the call `feed`
abbrev pub fed : List ℕ → ℕ → Contents → Contents
fed piece now_ms c = record c { bytes = c.bytes ++ piece; moment_ms = max c.moment_ms now_ms }

abbrev pub fed_by : List ℕ → ℕ → Contents → Result Contents SessionFault
fed_by piece now_ms c = if is_closed c.state then Err faults.Closed else Ok (fed piece now_ms c)

-- the call `send`: the bytes of a message, if it has any
abbrev pub text_of : Message → Option (List ℕ)
text_of message = if is_written message && fits message then Some (written message) else None

abbrev pub sent_text : Option (List ℕ) → Contents → Result Contents SessionFault
sent_text None c = Err faults.TooLong
sent_text (Some text) c = Ok (record c { sent_ms = c.moment_ms; output = c.output ++ text })

-- a session sends only once it is up
abbrev pub sent_in : State → Option (List ℕ) → Contents → Result Contents SessionFault
sent_in Up text c = sent_text text c
sent_in Closed text c = Err faults.Closed
sent_in state text c = Err faults.NotUp

abbrev pub sent : Message → Contents → Result Contents SessionFault
sent message c = sent_in c.state (text_of message) c

-- the call `report_error`
abbrev pub error_reported : PcError → Contents → Result Contents SessionFault
error_reported error c = sent_in c.state (Some (error_text error)) c

-- the call `end`: a PCErr and a Close as given
abbrev pub text_of_error : Option PcError → List ℕ
text_of_error None = []
text_of_error (Some error) = error_text error

abbrev pub text_of_reason : Option ℕ → List ℕ
text_of_reason None = []
text_of_reason (Some reason) = notice_text (Close reason)

abbrev pub ended : Option PcError → Option ℕ → Contents → Contents
ended error reason c = record c { state = Closed; bytes = []; end = Some (Caller error reason); down_pending = true; output = c.output ++ text_of_error error ++ text_of_reason reason }

abbrev pub ended_by : Option PcError → Option ℕ → Contents → Result Contents SessionFault
ended_by error reason c = if is_closed c.state then Err faults.Closed else Ok (ended error reason c)

-- the call `take_output`
abbrev pub output_taken : Contents → Contents
output_taken c = record c { output = [] }

-- the state allows the call: only then is memory asked for
abbrev pub IsAllowed : Result Contents SessionFault → Type 0
IsAllowed (Err faults.Closed) = ⊥
IsAllowed (Err faults.NotUp) = ⊥
IsAllowed step = Unit {0}

-- the refusal is the step's, unless memory ran out
abbrev pub Refuses : SessionFault → Result Contents SessionFault → Type 0
Refuses faults.OutOfMemory step = IsAllowed step
Refuses fault step = step ≡ Err fault

-- what a call that may be refused leaves: its step, or what was there before
abbrev pub Does : {T : Type 0} → Result T SessionFault → Contents → Contents → Result Contents SessionFault → Type 0
Does (Ok x) old new step = step ≡ Ok new
Does (Err fault) old new step = (new ≡ old) × Refuses fault step
