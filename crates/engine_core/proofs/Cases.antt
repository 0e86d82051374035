-- The lines of the engine's table, one by one.
use Rattle.std.proofs.Common.{◌≡◌, ℕ, Bool, false, if◌then◌else◌, List, [], Option, None, Some, Result, OnOk, OnErr, IfErr, refl, sym, subst}
use Rattle.sequence.specs.declared.list.Sequence.{Sequence}
use Rattle.pcep_messages.specs.declared.message.Errors.{Errors}
use Rattle.pcep_messages.specs.declared.message.Message.{Message}
use Rattle.pcep_messages.specs.declared.message.Message.TheVariants as messages
use Rattle.pcep_messages.specs.declared.message.PathRequest.{PathRequest}
use Rattle.pcep_messages.specs.declared.message.StateReport.{StateReport}
use Rattle.pcep_objects.specs.declared.request_objects.NoPathVector.{NoPathVector}
use Rattle.pcep_session.specs.Calls.{fed}
use Rattle.pcep_session.specs.Turns.{is_up, is_closed}
use Rattle.pcep_session.specs.declared.table.Input.{Input}
use Rattle.pcep_session.specs.declared.table.Input.TheVariants as input
use Rattle.lsp_base.specs.declared.why.Why.{Why}
use Rattle.step_core.specs.declared.event.Event.TheVariants.{Drain}
use Rattle.step_core.specs.declared.event.Reply.{Reply}
use Rattle.step_core.specs.declared.event.Reply.TheVariants as replies
use Rattle.history_core.specs.declared.fault.Fault.{Fault}
use Rattle.history_core.specs.declared.fault.Fault.TheVariants.{OutOfMemory}
use Rattle.engine_core.specs.Deeds.{Deed}
use Rattle.engine_core.specs.Engine.{client_with, saying, cannot_process, after_report, answered_why, refused_request, after_request, taking, on_input, messages_of, sending, draining, served_from, served}
use Rattle.engine_core.specs.Requests.{vector_for}
use Rattle.engine_core.specs.Plans.{Plan, Returns, Reaches, submitting}
use Rattle.engine_core.specs.Stores.{Carries, Serves}
use Rattle.engine_core.specs.declared.client.Client.{Client}
use Rattle.engine_core.proofs.Carrying.{stays, may_change}

-- a report was refused
pub report_refused : {X S W : Type 0} (moves : S → List Deed → S → Type 0) (is_full : S → Type 0) (r : Result X Fault) (s : S) (c after : Client) (peer plsp : ℕ) (srp : Option ℕ) (reply : Reply) (why : Why) (go_on : Client → Plan W)
    → reply ≡ replies.Refused why → moves s [] s → OnOk r (after ≡ saying (cannot_process srp) c) → OnErr r (after ≡ c) → IfErr r (λ fault. fault ≡ OutOfMemory)
    → Serves r moves is_full s s c after (after_report peer plsp srp reply c go_on) go_on
unfolding after_report
report_refused moves is_full r s c after peer plsp srp reply why go_on is nowhere ok err only =
    subst (λ (x : Reply). Serves r moves is_full s s c after (after_report peer plsp srp x c go_on) go_on) (sym is)
    (may_change moves is_full r s c (saying (cannot_process srp) c) after go_on nowhere ok err only refl)

-- a report was booked, of an LSP that doesn't wait for a path
pub report_booked : {S W : Type 0} (moves : S → List Deed → S → Type 0) (s : S) (c : Client) (peer plsp : ℕ) (srp : Option ℕ) (reply : Reply) (go_on : Client → Plan W)
    → reply ≡ replies.Booked false → moves s [] s → Carries moves s s c c (after_report peer plsp srp reply c go_on) (go_on c)
unfolding after_report
report_booked moves s c peer plsp srp reply go_on is nowhere =
    subst (λ (x : Reply). Carries moves s s c c (after_report peer plsp srp x c go_on) (go_on c)) (sym is) (stays moves s c c (go_on c) nowhere refl)

-- a report was neither refused nor booked
pub report_taken : {S W : Type 0} (moves : S → List Deed → S → Type 0) (s : S) (c : Client) (peer plsp : ℕ) (srp : Option ℕ) (reply : Reply) (go_on : Client → Plan W)
    → ((why : Why) → reply ≡ replies.Refused why → ⊥) → ((wants : Bool) → reply ≡ replies.Booked wants → ⊥) → moves s [] s → Carries moves s s c c (after_report peer plsp srp reply c go_on) (go_on c)
unfolding after_report
report_taken moves s c peer plsp srp (replies.Refused why) go_on not nor nowhere = absurd (not why refl)
report_taken moves s c peer plsp srp (replies.Booked wants) go_on not nor nowhere = absurd (nor wants refl)
report_taken moves s c peer plsp srp reply go_on not nor nowhere = stays moves s c c (go_on c) nowhere refl

-- a request was refused
pub request_refused : {X S W : Type 0} (moves : S → List Deed → S → Type 0) (is_full : S → Type 0) (r : Result X Fault) (s : S) (c after : Client) (request : ℕ) (reply : Reply) (why : Why) (go_on : Client → Plan W)
    → reply ≡ replies.Refused why → moves s [] s → OnOk r (after ≡ refused_request request why c) → OnErr r (after ≡ c) → IfErr r (λ fault. fault ≡ OutOfMemory)
    → Serves r moves is_full s s c after (after_request request reply c go_on) go_on
unfolding after_request
request_refused moves is_full r s c after request reply why go_on is nowhere ok err only =
    subst (λ (x : Reply). Serves r moves is_full s s c after (after_request request x c go_on) go_on) (sym is)
    (may_change moves is_full r s c (refused_request request why c) after go_on nowhere ok err only (as_before (vector_for why)))
  where
    as_before : (vector : Option NoPathVector) → (answered_why request vector c).joined ≡ c.joined
    as_before None = refl
    as_before (Some vector) = refl

-- a request was taken
pub request_taken : {S W : Type 0} (moves : S → List Deed → S → Type 0) (s : S) (c : Client) (request : ℕ) (reply : Reply) (go_on : Client → Plan W)
    → ((why : Why) → reply ≡ replies.Refused why → ⊥) → moves s [] s → Carries moves s s c c (after_request request reply c go_on) (go_on c)
unfolding after_request
request_taken moves s c request (replies.Refused why) go_on not nowhere = absurd (not why refl)
request_taken moves s c request reply go_on not nowhere = stays moves s c c (go_on c) nowhere refl

-- a message that the engine does nothing for
pub other_message : {S W : Type 0} (moves : S → List Deed → S → Type 0) (s : S) (c : Client) (peer : ℕ) (message : Message) (go_on : Client → Plan W)
    → ((reports : Sequence StateReport) → message ≡ messages.Report reports → ⊥) → ((requests : Sequence PathRequest) → message ≡ messages.Request requests → ⊥) → ((errors : Errors) → message ≡ messages.Error errors → ⊥) → moves s [] s → Carries moves s s c c (taking peer message c go_on) (go_on c)
other_message moves s c peer (messages.Report reports) go_on not nor none nowhere = absurd (not reports refl)
other_message moves s c peer (messages.Request requests) go_on not nor none nowhere = absurd (nor requests refl)
other_message moves s c peer (messages.Error errors) go_on not nor none nowhere = absurd (none errors refl)
other_message moves s c peer message go_on not nor none nowhere = stays moves s c c (go_on c) nowhere refl

pub handled : {S W : Type 0} (moves : S → List Deed → S → Type 0) (s : S) (c : Client) (peer : ℕ) (given : Input) (go_on : Client → Plan W)
    → given ≡ input.Handled → moves s [] s → Carries moves s s c c (on_input peer given c go_on) (go_on c)
unfolding on_input
handled moves s c peer given go_on is nowhere = subst (λ (x : Input). Carries moves s s c c (on_input peer x c go_on) (go_on c)) (sym is) (stays moves s c c (go_on c) nowhere refl)

-- a session that isn't up is sent nothing
pub not_up : {S W : Type 0} (moves : S → List Deed → S → Type 0) (s : S) (c : Client) (peer : ℕ) (go_on : Client → Plan W)
    → is_up c.session.state ≡ false → moves s [] s → Carries moves s s c c (draining peer c go_on) (go_on c)
not_up moves s c peer go_on down nowhere =
    subst (λ (is : Bool). Carries moves s s c c (if is then submitting c (Drain peer) (λ reply. sending (messages_of reply) c go_on) else go_on c) (go_on c)) (sym down)
    (stays moves s c c (go_on c) nowhere refl)

-- a session that hasn't ended is served
pub still_open : {X S : Type 0} (moves : S → List Deed → S → Type 0) (is_full : S → Type 0) (r : Result X Fault) (s t : S) (c after : Client) (peer : ℕ) (piece : List ℕ) (now_ms : ℕ)
    → is_closed c.session.state ≡ false
    → Serves r moves is_full s t c after (Reaches c (served_from peer (client_with (fed piece now_ms c.session) c) (λ (w : Client). Returns w))) (λ (w : Client). Returns w)
    → Serves r moves is_full s t c after (served peer piece now_ms c) (λ (w : Client). Returns w)
unfolding served
still_open moves is_full r s t c after peer piece now_ms going h =
    subst (λ (is : Bool). Serves r moves is_full s t c after (if is then Returns c else Reaches c (served_from peer (client_with (fed piece now_ms c.session) c) (λ (w : Client). Returns w))) (λ (w : Client). Returns w)) (sym going) h
