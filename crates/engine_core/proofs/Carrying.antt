-- Plans that are carried out one after the other.
use Rattle.std.proofs.Common.{◌≡◌, inl, inr, ◌++◌, ◌+◌, ◌-◌, ◌<◌, ℕ, Bool, true, false, if◌then◌else◌, List, [], ◌∷◌, length, slice_get, Option, None, Some, Result, Ok, Err, OnOk, OnErr, IfErr, refl, sym, ◌∙◌, ap, subst, arith}
use Rattle.std.proofs.lemmas.Grind.{common_steps}
use Rattle.std.proofs.lemmas.List.{length-append}
use Rattle.std.proofs.lemmas.Option.{slice_get-get_or}
use Rattle.std.proofs.Math.Seq.{get_or-append_seam}
use Rattle.pcep_messages.specs.declared.message.StateReport.{StateReport}
use Rattle.pcep_objects.specs.declared.session_objects.Open.{Open}
use Rattle.step_core.specs.declared.event.Event.{Event}
use Rattle.step_core.specs.declared.event.Event.TheVariants.{Down, Marker, Report}
use Rattle.step_core.specs.declared.event.Reply.{Reply}
use Rattle.history_core.specs.declared.fault.Fault.{Fault}
use Rattle.history_core.specs.declared.fault.Fault.TheVariants.{OutOfMemory, HistoryFull}
use Rattle.engine_core.specs.Calls.{called, newest_reply}
use Rattle.engine_core.specs.Deeds.{Deed, Sight, Opened, Called, Shown, calls_of, open_shown}
use Rattle.pcep_session.specs.declared.contents.Contents.{Contents}
use Rattle.engine_core.specs.Engine.{client_with, is_end_of_sync, event_of, showing_open, on_down}
use Rattle.engine_core.specs.Joining.{joined_by, joined_after}
use Rattle.engine_core.specs.Plans.{Plan, Reaches, Shows, Submits, submitting}
use Rattle.engine_core.specs.Stores.{Carries, MayFail, BreaksOff, Serves}
use Rattle.engine_core.specs.declared.client.Client.{Client}
use Rattle.engine_core.specs.declared.store.Call.{Call}
use Rattle.engine_core.proofs.Leading.{here, leads_on, passed, one_call, one_shown}

joined_on : (joined : Bool) (first second : List Deed) → joined_after joined (calls_of (first ++ second)) ≡ joined_after (joined_after joined (calls_of first)) (calls_of second)
joined_on joined [] second = refl
joined_on joined (Called call ∷ first) second = joined_on (joined_by joined call.event call.reply) first second
joined_on joined (Shown sight ∷ first) second = joined_on joined first second

-- two moves of a store, one after the other, are one move
abbrev pub MovesOn : {S : Type 0} → (S → List Deed → S → Type 0) → Type 0
MovesOn moves = (a b c : _) (first second : List Deed) → moves a first b → moves b second c → moves a (first ++ second) c

-- nothing was done
pub stays : {S W : Type 0} (moves : S → List Deed → S → Type 0) (s : S) (c after : Client) (p : Plan W) → moves s [] s → after.joined ≡ c.joined → Carries moves s s c after p p
stays moves s c after p h j = record { deeds = []; made = h; leads = here p; joined = j }

-- a state of the client was passed
pub passes : {S W : Type 0} (moves : S → List Deed → S → Type 0) (a b : S) (c after d : Client) (p q : Plan W) → Carries moves a b c after p q → Carries moves a b c after (Reaches d p) q
passes moves a b c after d p q h = record { deeds = h.deeds; made = h.made; leads = passed d p q h.deeds h.leads; joined = h.joined }

pub breaks_past : {S W : Type 0} (moves : S → List Deed → S → Type 0) (is_full : S → Type 0) (a b : S) (c after d : Client) (p : Plan W) (fault : Fault)
    → BreaksOff moves is_full a b c after p fault → BreaksOff moves is_full a b c after (Reaches d p) fault
breaks_past moves is_full a b c after d p fault h = record { rest = h.rest; carried = passes moves a b c after d p (Reaches after h.rest) h.carried; cause = h.cause }

-- one event was submitted
pub submitted : {S W : Type 0} (moves : S → List Deed → S → Type 0) (a b : S) (c after d : Client) (event : Event) (reply : Reply) (go_on : Reply → Plan W)
    → moves a (called event reply ∷ []) b → after.joined ≡ joined_by c.joined event reply → Carries moves a b c after (submitting d event go_on) (Reaches d (go_on reply))
submitted moves a b c after d event reply go_on h j = record { deeds = called event reply ∷ []; made = h; leads = one_call d event reply go_on; joined = j }

-- one after the other
pub carries_on : {S W : Type 0} (moves : S → List Deed → S → Type 0) → MovesOn moves → (s t u : S) (c mid after : Client) (p q r : Plan W)
    → Carries moves s t c mid p q → Carries moves t u mid after q r → Carries moves s u c after p r
carries_on moves on s t u c mid after p q r h k = record {
  deeds = h.deeds ++ k.deeds;
  made = on s t u h.deeds k.deeds h.made k.made;
  leads = leads_on p q r h.deeds k.deeds h.leads k.leads;
  joined = k.joined ∙ ap (λ (is : Bool). joined_after is (calls_of k.deeds)) h.joined ∙ sym (joined_on c.joined h.deeds k.deeds);
}

-- a fault later on
pub breaks_on : {S W : Type 0} (moves : S → List Deed → S → Type 0) (is_full : S → Type 0) → MovesOn moves → (s t u : S) (c mid after : Client) (p q : Plan W) (fault : Fault)
    → Carries moves s t c mid p q → BreaksOff moves is_full t u mid after q fault → BreaksOff moves is_full s u c after p fault
breaks_on moves is_full on s t u c mid after p q fault h k = record {
  rest = k.rest;
  carried = carries_on moves on s t u c mid after p q (Reaches after k.rest) h k.carried;
  cause = k.cause;
}

-- a call after one that went well
pub serves_on : {X S W : Type 0} (moves : S → List Deed → S → Type 0) (is_full : S → Type 0) → MovesOn moves → (r : Result X Fault) (s t u : S) (c mid after : Client) (p q : Plan W) (go_on : Client → Plan W)
    → Carries moves s t c mid p q → Serves r moves is_full t u mid after q go_on → Serves r moves is_full s u c after p go_on
serves_on moves is_full on (Ok x) s t u c mid after p q go_on h k = carries_on moves on s t u c mid after p q (go_on after) h k
serves_on moves is_full on (Err fault) s t u c mid after p q go_on h k = breaks_on moves is_full on s t u c mid after p q fault h k

pub serves_past : {X S W : Type 0} (moves : S → List Deed → S → Type 0) (is_full : S → Type 0) (r : Result X Fault) (s t : S) (c after d : Client) (p : Plan W) (go_on : Client → Plan W)
    → Serves r moves is_full s t c after p go_on → Serves r moves is_full s t c after (Reaches d p) go_on
serves_past moves is_full (Ok x) s t c after d p go_on h = passes moves s t c after d p (go_on after) h
serves_past moves is_full (Err fault) s t c after d p go_on h = breaks_past moves is_full s t c after d p fault h

-- something was shown, and then what follows was done
pub shown_first : {X S W : Type 0} (moves : S → List Deed → S → Type 0) (is_full : S → Type 0) → MovesOn moves → (r : Result X Fault) (a b u : S) (c after : Client) (sight : Sight) (p : Plan W) (go_on : Client → Plan W)
    → moves a (Shown sight ∷ []) b → Serves r moves is_full b u c after p go_on → Serves r moves is_full a u c after (Shows sight p) go_on
shown_first moves is_full on r a b u c after sight p go_on h k =
    serves_on moves is_full on r a b u c c after (Shows sight p) p go_on (record { deeds = Shown sight ∷ []; made = h; leads = one_shown sight p; joined = refl }) k

-- the peer's Open was shown, if there is one
pub open_first : {X S W : Type 0} (moves : S → List Deed → S → Type 0) (is_full : S → Type 0) → MovesOn moves → (r : Result X Fault) (a b u : S) (c after : Client) (peer_open : Option Open) (p : Plan W) (go_on : Client → Plan W)
    → moves a (open_shown peer_open) b → Serves r moves is_full b u c after p go_on → Serves r moves is_full a u c after (showing_open peer_open p) go_on
open_first moves is_full on r a b u c after (Some open_) p go_on h k = shown_first moves is_full on r a b u c after (Opened open_) p go_on h k
open_first moves is_full on r a b u c after None p go_on h k =
    serves_on moves is_full on r a b u c c after p p go_on (record { deeds = []; made = h; leads = here p; joined = refl }) k

-- memory ran out, and the client is where it is now
pub out_of_memory : {S W : Type 0} (moves : S → List Deed → S → Type 0) (is_full : S → Type 0) (a b : S) (c after : Client) (p q : Plan W) (fault : Fault)
    → fault ≡ OutOfMemory → Carries moves a b c after p (Reaches after q) → BreaksOff moves is_full a b c after p fault
out_of_memory moves is_full a b c after p q fault is h = record { rest = q; carried = h; cause = subst (λ (f : Fault). MayFail is_full b q f) (sym is) tt }

-- memory ran out before anything was done
pub not_begun : {S W : Type 0} (moves : S → List Deed → S → Type 0) (is_full : S → Type 0) (s : S) (c after : Client) (p : Plan W) (fault : Fault)
    → moves s [] s → fault ≡ OutOfMemory → after ≡ c → BreaksOff moves is_full s s c after (Reaches c p) fault
not_begun moves is_full s c after p fault nowhere only same =
    subst (λ (w : Client). BreaksOff moves is_full s s c w (Reaches c p) fault) (sym same)
    (out_of_memory moves is_full s s c c (Reaches c p) p fault only (stays moves s c c (Reaches c p) nowhere refl))

-- an event could not be submitted
pub not_submitted : {S W : Type 0} (moves : S → List Deed → S → Type 0) (is_full : S → Type 0) (a b : S) (c : Client) (event : Event) (go_on : Reply → Plan W) (fault : Fault)
    → moves a [] b → (fault ≡ HistoryFull → is_full b) → BreaksOff moves is_full a b c c (submitting c event go_on) fault
not_submitted {W = W} moves is_full a b c event go_on fault h full = record {
  rest = rest;
  carried = record { deeds = []; made = h; leads = inl refl; joined = refl };
  cause = may_fail fault full;
}
  where
    rest : Plan W
    rest = Submits event (λ reply. Reaches c (go_on reply))

    may_fail : (f : Fault) → (f ≡ HistoryFull → is_full b) → MayFail is_full b (Submits event (λ reply. Reaches c (go_on reply))) f
    may_fail OutOfMemory k = tt
    may_fail HistoryFull k = k refl

-- ---- one event, and what its reply means

-- what the reply leads to follows on the event
pub answered : {X S W : Type 0} (moves : S → List Deed → S → Type 0) (is_full : S → Type 0) → MovesOn moves
    → (r : Result X Fault) (a b u : S) (c after : Client) (event : Event) (reply : Reply) (plan : Reply → Plan W) (go_on : Client → Plan W)
    → moves a (called event reply ∷ []) b → c.joined ≡ joined_by c.joined event reply → Serves r moves is_full b u c after (plan reply) go_on
    → Serves r moves is_full a u c after (submitting c event plan) go_on
answered moves is_full on r a b u c after event reply plan go_on h j k =
    serves_on moves is_full on r a b u c c after (submitting c event plan) (Reaches c (plan reply)) go_on (submitted moves a b c c c event reply plan h j)
    (serves_past moves is_full r b u c after c (plan reply) go_on k)

-- the reply changes only the client
pub changed : {X S W : Type 0} (moves : S → List Deed → S → Type 0) (is_full : S → Type 0)
    → (r : Result X Fault) (a b : S) (c after : Client) (event : Event) (reply : Reply) (meaning : Reply → Client → Client) (go_on : Client → Plan W)
    → moves a (called event reply ∷ []) b → OnOk r (after ≡ meaning reply c) → OnErr r (after ≡ c) → IfErr r (λ fault. fault ≡ OutOfMemory)
    → after.joined ≡ joined_by c.joined event reply → Serves r moves is_full a b c after (submitting c event (λ got. go_on (meaning got c))) go_on
changed moves is_full (Ok x) a b c after event reply meaning go_on h is same only j = record {
  deeds = called event reply ∷ [];
  made = h;
  leads = (refl, inr (rw (sym is) (here (go_on after))));
  joined = j;
}
changed moves is_full (Err fault) a b c after event reply meaning go_on h is same only j =
    out_of_memory moves is_full a b c after (submitting c event (λ got. go_on (meaning got c))) (go_on (meaning reply c)) fault only
    (subst (λ (d : Client). Carries moves a b c after (submitting c event (λ got. go_on (meaning got c))) (Reaches d (go_on (meaning reply c)))) (sym same)
    (submitted moves a b c after c event reply (λ got. go_on (meaning got c)) h j))

-- the client changes, if there is memory
pub may_change : {X S W : Type 0} (moves : S → List Deed → S → Type 0) (is_full : S → Type 0) (r : Result X Fault) (s : S) (c d after : Client) (go_on : Client → Plan W)
    → moves s [] s → OnOk r (after ≡ d) → OnErr r (after ≡ c) → IfErr r (λ fault. fault ≡ OutOfMemory) → d.joined ≡ c.joined → Serves r moves is_full s s c after (Reaches c (go_on d)) go_on
may_change moves is_full (Ok x) s c d after go_on nowhere is same only j =
    subst (λ (w : Client). Carries moves s s c w (Reaches c (go_on d)) (go_on w)) (sym is) (passes moves s s c d c (go_on d) (go_on d) (stays moves s c d (go_on d) nowhere j))
may_change moves is_full (Err fault) s c d after go_on nowhere is same only j = not_begun moves is_full s c after (go_on d) fault nowhere only same

-- neither the end of synchronization nor a report joins a peer
pub reports_join_none : (joined : Bool) (peer : ℕ) (r : StateReport) (reply : Reply) → joined_by joined (event_of peer r) reply ≡ joined
reports_join_none joined peer r reply = by_kind (is_end_of_sync r)
  where
    by_kind : (l : Bool) → joined_by joined (if l then Marker peer else Report peer r) reply ≡ joined
    by_kind true = refl
    by_kind false = refl

-- a peer that is joined could not go down
pub not_down : {S W : Type 0} (moves : S → List Deed → S → Type 0) (is_full : S → Type 0) (a b : S) (c : Client) (peer : ℕ) (go_on : Client → Plan W) (fault : Fault)
    → c.joined ≡ true → moves a [] b → (fault ≡ HistoryFull → is_full b) → BreaksOff moves is_full a b c c (on_down peer c go_on) fault
not_down moves is_full a b c peer go_on fault joined h full =
    subst (λ (is : Bool). BreaksOff moves is_full a b c c (if is then submitting c (Down peer) (λ reply. go_on (record c { joined = false })) else go_on c) fault) (sym joined)
    (not_submitted moves is_full a b c (Down peer) (λ reply. go_on (record c { joined = false })) fault h full)

-- a peer that is joined went down
pub gone_down : {S W : Type 0} (moves : S → List Deed → S → Type 0) (a b : S) (c : Client) (peer : ℕ) (reply : Reply) (go_on : Client → Plan W)
    → c.joined ≡ true → moves a (called (Down peer) reply ∷ []) b → Carries moves a b c (record c { joined = false }) (on_down peer c go_on) (go_on (record c { joined = false }))
gone_down moves a b c peer reply go_on joined h =
    let d : Client = record c { joined = false } in
    subst (λ (is : Bool). Carries moves a b c d (if is then submitting c (Down peer) (λ reply. go_on d) else go_on c) (go_on d)) (sym joined)
    (record { deeds = called (Down peer) reply ∷ []; made = h; leads = (refl, inr (here (go_on d))); joined = refl })

-- a peer that isn't joined stays
pub not_joined : {S W : Type 0} (moves : S → List Deed → S → Type 0) (s : S) (c : Client) (peer : ℕ) (go_on : Client → Plan W)
    → c.joined ≡ false → moves s [] s → Carries moves s s c c (on_down peer c go_on) (go_on c)
not_joined moves s c peer go_on out nowhere =
    subst (λ (is : Bool). Carries moves s s c c (if is then submitting c (Down peer) (λ reply. go_on (record c { joined = false })) else go_on c) (go_on c)) (sym out)
    (stays moves s c c (go_on c) nowhere refl)

-- what changes only a session joins no peer
pub from_session : {X S W : Type 0} (moves : S → List Deed → S → Type 0) (is_full : S → Type 0) (r : Result X Fault) (a b : S) (s : Contents) (c mid after : Client) (plan_of : Client → Plan W) (go_on : Client → Plan W)
    → mid ≡ client_with s c → Serves r moves is_full a b mid after (plan_of mid) go_on → Serves r moves is_full a b c after (plan_of (client_with s c)) go_on
from_session {X = X} {W = W} moves is_full r a b s c mid after plan_of go_on is h =
    by_result r (subst (λ (m : Client). Serves r moves is_full a b m after (plan_of m) go_on) is h)
  where
    from_carries : (rest : Plan W) → Carries moves a b (client_with s c) after (plan_of (client_with s c)) rest → Carries moves a b c after (plan_of (client_with s c)) rest
    from_carries rest k = record { deeds = k.deeds; made = k.made; leads = k.leads; joined = k.joined }

    by_result : (x : Result X Fault) → Serves x moves is_full a b (client_with s c) after (plan_of (client_with s c)) go_on → Serves x moves is_full a b c after (plan_of (client_with s c)) go_on
    by_result (Ok x) k = from_carries (go_on after) k
    by_result (Err fault) k = record { rest = k.rest; carried = from_carries (Reaches after k.rest) k.carried; cause = k.cause }

-- ---- the list of a store

pub last_of : (calls : List Call) (call : Call) → slice_get (calls ++ call ∷ []) (length (calls ++ call ∷ []) - 1) ≡ Some call
last_of calls call =
    let size : length (calls ++ call ∷ []) ≡ length calls + 1 = length-append calls (call ∷ []) in
    let here : length (calls ++ call ∷ []) - 1 ≡ length calls = grind (arith, common_steps) in
    let within : length calls < length (calls ++ call ∷ []) = grind (arith, common_steps) in
    rw here (slice_get-get_or (calls ++ call ∷ []) (length calls) call within ∙ ap (λ (x : Call). Some x) (get_or-append_seam calls call [] call))

pub newest_of : (calls : List Call) (call : Call) → newest_reply (calls ++ call ∷ []) ≡ call.reply
newest_of [] call = refl
newest_of (first ∷ []) call = refl
newest_of (first ∷ next ∷ calls) call = newest_of (next ∷ calls) call

abbrev pub MovesAdd : {S : Type 0} → (S → List Call) → (S → List Deed → S → Type 0) → Type 0
MovesAdd calls moves = (a b : _) (made : List Deed) → moves a made b → calls b ≡ calls a ++ calls_of made

pub newest_submitted : {X S : Type 0} (r : Result X Fault) (calls : S → List Call) (moves : S → List Deed → S → Type 0) → MovesAdd calls moves → (a b : S) (event : Event)
    → OnOk r ((reply : Reply) × moves a (called event reply ∷ []) b) → OnOk r (moves a (called event (newest_reply (calls b)) ∷ []) b)
newest_submitted (Err fault) calls moves add a b event h = h
newest_submitted (Ok x) calls moves add a b event h =
    let call : Call = record { event = event; reply = h.0 } in
    let e : newest_reply (calls b) ≡ h.0 = ap newest_reply (add a b (Called call ∷ []) h.1) ∙ newest_of (calls a) call in
    rw e h.1

record Ends (calls : List Call) : Type 0 where
  front : List Call
  last : Call
  whole : calls ≡ front ++ last ∷ []

last_in : (calls : List Call) → 0 < length calls → Ends calls
last_in [] h = absurd (omega (arith, h))
last_in (call ∷ []) h = record { front = []; last = call; whole = refl }
last_in (call ∷ next ∷ calls) h =
    let e : Ends (next ∷ calls) = last_in (next ∷ calls) (grind (arith, common_steps)) in
    record { front = call ∷ e.front; last = e.last; whole = ap (λ (xs : List Call). call ∷ xs) e.whole }

pub newest_is : (calls : List Call) (got : Reply) → 0 < length calls → ((call : Call) → slice_get calls (length calls - 1) ≡ Some call → got ≡ call.reply) → got ≡ newest_reply calls
newest_is calls got some is =
    let e : Ends calls = last_in calls some in
    is e.last (subst (λ (xs : List Call). slice_get xs (length xs - 1) ≡ Some e.last) (sym e.whole) (last_of e.front e.last)) ∙ sym (ap newest_reply e.whole ∙ newest_of e.front e.last)
