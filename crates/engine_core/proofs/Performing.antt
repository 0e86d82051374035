-- Calls that carry a plan out over a database perform it.
use Rattle.std.proofs.Common.{◌≡◌, inl, inr, false, List, [], ◌∷◌, Result, Ok, Err, refl, ◌∙◌, ap}
use Rattle.step_core.specs.Steps.{step}
use Rattle.step_core.specs.declared.event.Event.{Event}
use Rattle.step_core.specs.declared.event.Reply.{Reply}
use Rattle.history_core.specs.Histories.{Content, stepped, is_full}
use Rattle.history_core.specs.declared.fault.Fault.{Fault}
use Rattle.history_core.specs.declared.fault.Fault.TheVariants.{OutOfMemory, HistoryFull}
use Rattle.engine_core.specs.Deeds.{Deed, Sight, Called, Shown}
use Rattle.engine_core.specs.Lending.{Steps, IsFull, LentMoves}
use Rattle.engine_core.specs.Performed.{performed, Performs}
use Rattle.engine_core.specs.Plans.{Plan, Returns, Reaches, Shows, Submits, Passes, Takes, LeadsTo}
use Rattle.engine_core.specs.Stores.{Carries, MayFail, BreaksOff, Serves, ServesOrEnds}
use Rattle.engine_core.specs.declared.client.Client.{Client}
use Rattle.engine_core.specs.declared.lent.Lent.{Lent}
use Rattle.engine_core.specs.declared.store.Call.{Call}

one_step : {W : Type 0} (event : Event) (go_on : Reply → Plan W) (call : Call) (d : Content) → call.event ≡ event → is_full d ≡ false → call.reply ≡ (step d.state call.event).reply
    → performed (Submits event go_on) d ≡ performed (go_on call.reply) (stepped d call.event call.reply)
one_step event go_on call d is small reply = rw (small, reply, is) refl

passing : {W : Type 0} (plan rest : Plan W) (d : Content) → Passes plan rest → performed plan d ≡ performed rest d
passing (Returns w) rest d h = ap (λ (p : Plan _). performed p d) h
passing (Shows sight plan) rest d h = ap (λ (p : Plan _). performed p d) h
passing (Submits event go_on) rest d h = ap (λ (p : Plan _). performed p d) h
passing (Reaches c plan) rest d h = elim h [ inl e ↦ ap (λ (p : Plan _). performed p d) e | inr i ↦ passing plan rest d i ]

called_there : {W : Type 0} (plan rest : Plan W) (call : Call) (On : Plan W → Type 0) (d after : Content) → Takes plan (Called call) On
    → is_full d ≡ false → call.reply ≡ (step d.state call.event).reply
    → ((next : Plan W) → On next → performed next (stepped d call.event call.reply) ≡ performed rest after) → performed plan d ≡ performed rest after
called_there (Returns w) rest call On d after h small reply then = absurd h
called_there (Shows sight plan) rest call On d after h small reply then = absurd h
called_there (Reaches c plan) rest call On d after h small reply then = called_there plan rest call On d after h small reply then
called_there (Submits event go_on) rest call On d after h small reply then = one_step event go_on call d h.0 small reply ∙ then (go_on call.reply) h.1

shown_there : {W : Type 0} (plan rest : Plan W) (sight : Sight) (On : Plan W → Type 0) (d after : Content) → Takes plan (Shown sight) On
    → ((next : Plan W) → On next → performed next d ≡ performed rest after) → performed plan d ≡ performed rest after
shown_there (Returns w) rest sight On d after h then = absurd h
shown_there (Shows s plan) rest sight On d after h then = then plan h.1
shown_there (Reaches c plan) rest sight On d after h then = shown_there plan rest sight On d after h then
shown_there (Submits event go_on) rest sight On d after h then = absurd h

-- what is left of the plan is performed from where the deeds led
pub leads_to : {W : Type 0} (plan rest : Plan W) (deeds : List Deed) (d after : Content) → LeadsTo plan deeds rest → Steps d deeds after → performed plan d ≡ performed rest after
leads_to plan rest [] d after h k = rw k (passing plan rest d h)
leads_to plan rest (Shown sight ∷ deeds) d after h k =
    shown_there plan rest sight (λ next. LeadsTo next deeds rest) d after h (λ next m. leads_to next rest deeds d after m k)
leads_to plan rest (Called call ∷ deeds) d after h k =
    called_there plan rest call (λ next. LeadsTo next deeds rest) d after h k.0 k.1 (λ next m. leads_to next rest deeds (stepped d call.event call.reply) after m k.2)

full_there : {W : Type 0} (event : Event) (go_on : Reply → Plan W) (d : Content) → IsFull d → performed (Submits event go_on) d ≡ Err HistoryFull
full_there event go_on d full = rw full refl

broke_off : {W : Type 0} (old new : Content) (c after : Client) (plan : Plan W) → BreaksOff Steps IsFull old new c after plan HistoryFull → performed plan old ≡ Err HistoryFull
broke_off {W = W} old new c after plan h = leads_to plan (Reaches after h.rest) h.carried.deeds old new h.carried.leads h.carried.made ∙ at h.rest h.cause
  where
    at : (rest : Plan W) → MayFail IsFull new rest HistoryFull → performed rest new ≡ Err HistoryFull
    at (Returns w) k = absurd k
    at (Reaches c rest) k = absurd k
    at (Shows sight rest) k = absurd k
    at (Submits event go_on) k = full_there event go_on new k

pub performs : {X : Type 0} (result : Result X Fault) (old new : Content) (c after : Client) (plan : Plan Client) → Serves result Steps IsFull old new c after plan (λ w. Returns w)
    → Performs result after new (performed plan old)
performs (Ok x) old new c after plan h = leads_to plan (Returns after) h.deeds old new h.leads h.made
performs (Err OutOfMemory) old new c after plan h = tt
performs (Err HistoryFull) old new c after plan h = broke_off old new c after plan h

pub performs_or_ends : {X : Type 0} (result : Result X Fault) (old new : Content) (c after : Client) (plan : Plan Client) → ServesOrEnds result Steps IsFull old new c after plan
    → Performs result after new (performed plan old)
performs_or_ends (Ok x) old new c after plan h = leads_to plan (Returns after) h.deeds old new h.leads h.made
performs_or_ends (Err OutOfMemory) old new c after plan h = tt
performs_or_ends (Err HistoryFull) old new c after plan h = broke_off old new c h.reached plan h.broke_off

-- ---- a database that is lent

abbrev moves_of : Lent → List Deed → Lent → Type 0
moves_of old made new = LentMoves old made new

abbrev full_at : Lent → Type 0
full_at s = IsFull s.database.now

carried_below : {W : Type 0} (old new : Lent) (c after : Client) (plan rest : Plan W) → Carries moves_of old new c after plan rest → Carries Steps old.database.now new.database.now c after plan rest
carried_below old new c after plan rest h = record { deeds = h.deeds; made = h.made.steps; leads = h.leads; joined = h.joined }

cause_below : {W : Type 0} (s : Lent) (rest : Plan W) (fault : Fault) → MayFail full_at s rest fault → MayFail IsFull s.database.now rest fault
cause_below s rest OutOfMemory h = tt
cause_below s (Returns w) HistoryFull h = h
cause_below s (Reaches c rest) HistoryFull h = h
cause_below s (Shows sight rest) HistoryFull h = h
cause_below s (Submits event go_on) HistoryFull h = h

broken_below : {W : Type 0} (old new : Lent) (c after : Client) (plan : Plan W) (fault : Fault) → BreaksOff moves_of full_at old new c after plan fault → BreaksOff Steps IsFull old.database.now new.database.now c after plan fault
broken_below old new c after plan fault h = record { rest = h.rest; carried = carried_below old new c after plan (Reaches after h.rest) h.carried; cause = cause_below new h.rest fault h.cause }

pub serves_below : {X : Type 0} (result : Result X Fault) (old new : Lent) (c after : Client) (plan : Plan Client) → Serves result moves_of full_at old new c after plan (λ w. Returns w)
    → Serves result Steps IsFull old.database.now new.database.now c after plan (λ w. Returns w)
serves_below (Ok x) old new c after plan h = carried_below old new c after plan (Returns after) h
serves_below (Err fault) old new c after plan h = broken_below old new c after plan fault h

pub ends_below : {X : Type 0} (result : Result X Fault) (old new : Lent) (c after : Client) (plan : Plan Client) → ServesOrEnds result moves_of full_at old new c after plan
    → ServesOrEnds result Steps IsFull old.database.now new.database.now c after plan
ends_below (Ok x) old new c after plan h = carried_below old new c after plan (Returns after) h
ends_below (Err fault) old new c after plan h = record { reached = h.reached; broke_off = broken_below old new c h.reached plan fault h.broke_off; ended = h.ended }

pub same_loan : {X : Type 0} (result : Result X Fault) (old new : Lent) (c after : Client) (plan : Plan Client) → Serves result moves_of full_at old new c after plan (λ w. Returns w)
    → new.database.ghost_name ≡ old.database.ghost_name
same_loan (Ok x) old new c after plan h = h.made.same_loan
same_loan (Err fault) old new c after plan h = h.carried.made.same_loan

pub same_loan_ended : {X : Type 0} (result : Result X Fault) (old new : Lent) (c after : Client) (plan : Plan Client) → ServesOrEnds result moves_of full_at old new c after plan
    → new.database.ghost_name ≡ old.database.ghost_name
same_loan_ended (Ok x) old new c after plan h = h.made.same_loan
same_loan_ended (Err fault) old new c after plan h = h.broke_off.carried.made.same_loan
