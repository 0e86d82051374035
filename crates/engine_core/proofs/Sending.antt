-- Messages that are sent one by one.
use Rattle.std.proofs.Common.{◌≡◌, inl, inr, ◌<◌, ℕ, zero, suc, List, [], ◌∷◌, fold, length, take, Bool, true, if◌then◌else◌, Result, Ok, Err, OnOk, OnErr, IfErr, refl, sym, subst, arith}
use Rattle.pcep_messages.specs.declared.message.Message.{Message}
use Rattle.pcep_session.specs.Turns.{is_up}
use Rattle.step_core.specs.declared.event.Event.TheVariants.{Drain}
use Rattle.step_core.specs.declared.event.Reply.{Reply}
use Rattle.history_core.specs.declared.fault.Fault.{Fault}
use Rattle.history_core.specs.declared.fault.Fault.TheVariants.{OutOfMemory, HistoryFull}
use Rattle.engine_core.specs.Calls.{called}
use Rattle.engine_core.specs.Deeds.{Deed}
use Rattle.engine_core.specs.Engine.{sending_one, sending, messages_of, draining}
use Rattle.engine_core.specs.Plans.{Plan, Reaches, submitting, Passes}
use Rattle.engine_core.specs.Sent.{SomeSent}
use Rattle.engine_core.specs.Stores.{BreaksOff, Serves}
use Rattle.engine_core.specs.declared.client.Client.{Client}
use Rattle.engine_core.proofs.Leading.{here}
use Rattle.engine_core.proofs.Carrying.{MovesOn, answered, not_submitted, out_of_memory}

-- all were sent
all_sent : {W : Type 0} (messages : List Message) (c : Client) (go_on : Client → Plan W) → Passes (sending messages c go_on) (go_on (fold sending_one c messages))
all_sent [] c go_on = here (go_on c)
all_sent (message ∷ messages) c go_on = inr (all_sent messages (sending_one c message) go_on)

-- the rest of the plan after some messages were sent
left_over : {W : Type 0} → ℕ → List Message → Client → (Client → Plan W) → Plan W
left_over zero [] c go_on = go_on c
left_over zero (message ∷ messages) c go_on = sending messages (sending_one c message) go_on
left_over (suc count) [] c go_on = go_on c
left_over (suc count) (message ∷ messages) c go_on = left_over count messages (sending_one c message) go_on

some_sent : {W : Type 0} (count : ℕ) (messages : List Message) (c : Client) (go_on : Client → Plan W) → count < length messages
    → Passes (sending messages c go_on) (Reaches (fold sending_one c (take count messages)) (left_over count messages c go_on))
unfolding left_over
some_sent zero [] c go_on few = absurd (omega (arith, few))
some_sent zero (message ∷ messages) c go_on few = inl refl
some_sent (suc count) [] c go_on few = absurd (omega (arith, few))
some_sent (suc count) (message ∷ messages) c go_on few = inr (some_sent count messages (sending_one c message) go_on (omega (arith, few)))

-- messages that were sent, of a store that stays
pub serves_sent : {X S W : Type 0} (moves : S → List Deed → S → Type 0) (is_full : S → Type 0) (r : Result X Fault) (s : S) (messages : List Message) (c after : Client) (go_on : Client → Plan W)
    → moves s [] s → OnOk r (after ≡ fold sending_one c messages) → OnErr r (SomeSent messages c after) → IfErr r (λ fault. fault ≡ OutOfMemory) → after.joined ≡ c.joined
    → Serves r moves is_full s s c after (sending messages c go_on) go_on
serves_sent moves is_full (Ok x) s messages c after go_on nowhere all some only j =
    record { deeds = []; made = nowhere; leads = rw all (all_sent messages c go_on); joined = j }
serves_sent moves is_full (Err fault) s messages c after go_on nowhere all some only j =
    out_of_memory moves is_full s s c after (sending messages c go_on) (left_over some.count messages c go_on) fault only
    (record { deeds = []; made = nowhere; leads = rw some.sent (some_sent some.count messages c go_on some.few); joined = j })

-- ---- what waits for the peer

abbrev drain_plan : {W : Type 0} → Bool → ℕ → Client → (Client → Plan W) → Plan W
drain_plan is peer c go_on = if is then submitting c (Drain peer) (λ reply. sending (messages_of reply) c go_on) else go_on c

pub not_drained : {S W : Type 0} (moves : S → List Deed → S → Type 0) (is_full : S → Type 0) (a b : S) (c after : Client) (peer : ℕ) (go_on : Client → Plan W) (fault : Fault)
    → is_up c.session.state ≡ true → after ≡ c → moves a [] b → (fault ≡ HistoryFull → is_full b) → BreaksOff moves is_full a b c after (draining peer c go_on) fault
not_drained moves is_full a b c after peer go_on fault up same h full =
    subst (λ (w : Client). BreaksOff moves is_full a b c w (draining peer c go_on) fault) (sym same)
    (subst (λ (is : Bool). BreaksOff moves is_full a b c c (drain_plan is peer c go_on) fault) (sym up)
    (not_submitted moves is_full a b c (Drain peer) (λ reply. sending (messages_of reply) c go_on) fault h full))

pub drained : {X S W : Type 0} (moves : S → List Deed → S → Type 0) (is_full : S → Type 0) → MovesOn moves
    → (r : Result X Fault) (a b : S) (c after : Client) (peer : ℕ) (reply : Reply) (go_on : Client → Plan W)
    → is_up c.session.state ≡ true → moves a (called (Drain peer) reply ∷ []) b → Serves r moves is_full b b c after (sending (messages_of reply) c go_on) go_on
    → Serves r moves is_full a b c after (draining peer c go_on) go_on
drained moves is_full on r a b c after peer reply go_on up h k =
    subst (λ (is : Bool). Serves r moves is_full a b c after (drain_plan is peer c go_on) go_on) (sym up)
    (answered moves is_full on r a b b c after (Drain peer) reply (λ got. sending (messages_of got) c go_on) go_on h refl k)
