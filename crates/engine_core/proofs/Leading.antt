-- Plans that follow one another.
use Rattle.std.proofs.Common.{inl, inr, ◌++◌, List, [], ◌∷◌, refl, sym, subst}
use Rattle.step_core.specs.declared.event.Event.{Event}
use Rattle.step_core.specs.declared.event.Reply.{Reply}
use Rattle.engine_core.specs.Calls.{called}
use Rattle.engine_core.specs.Deeds.{Deed, Sight, Called, Shown}
use Rattle.engine_core.specs.Plans.{Plan, Returns, Reaches, Shows, Submits, submitting, Passes, Takes, LeadsTo}
use Rattle.engine_core.specs.declared.client.Client.{Client}

pub here : {W : Type 0} (p : Plan W) → Passes p p
here (Returns w) = refl
here (Reaches c p) = inl refl
here (Shows sight p) = refl
here (Submits event go_on) = refl

pub passes_on : {W : Type 0} (p q r : Plan W) → Passes p q → Passes q r → Passes p r
passes_on (Returns w) q r h k = subst (λ (x : Plan _). Passes x r) (sym h) k
passes_on (Shows sight p) q r h k = subst (λ (x : Plan _). Passes x r) (sym h) k
passes_on (Submits event go_on) q r h k = subst (λ (x : Plan _). Passes x r) (sym h) k
passes_on (Reaches c p) q r h k = elim h [ inl e ↦ subst (λ (x : Plan _). Passes x r) (sym e) k | inr i ↦ inr (passes_on p q r i k) ]

takes_later : {W : Type 0} (p q : Plan W) (deed : Deed) (On : Plan W → Type 0) → Passes p q → Takes q deed On → Takes p deed On
takes_later (Returns w) q deed On h k = subst (λ (x : Plan _). Takes x deed On) (sym h) k
takes_later (Shows sight p) q deed On h k = subst (λ (x : Plan _). Takes x deed On) (sym h) k
takes_later (Submits event go_on) q deed On h k = subst (λ (x : Plan _). Takes x deed On) (sym h) k
takes_later (Reaches c p) q deed On h k = elim h [ inl e ↦ subst (λ (x : Plan _). Takes x deed On) (sym e) k | inr i ↦ takes_later p q deed On i k ]

takes_then : {W : Type 0} (p : Plan W) (deed : Deed) (On After : Plan W → Type 0) → ((x : Plan W) → On x → After x) → Takes p deed On → Takes p deed After
takes_then (Returns w) deed On After f h = absurd h
takes_then (Shows sight p) (Shown seen) On After f h = (h.0, f p h.1)
takes_then (Shows sight p) (Called call) On After f h = absurd h
takes_then (Submits event go_on) (Called call) On After f h = (h.0, f (go_on call.reply) h.1)
takes_then (Submits event go_on) (Shown seen) On After f h = absurd h
takes_then (Reaches c p) deed On After f h = takes_then p deed On After f h

-- first from one plan to the next without a deed, and then on
passes_first : {W : Type 0} (p q r : Plan W) (deeds : List Deed) → Passes p q → LeadsTo q deeds r → LeadsTo p deeds r
passes_first p q r [] h k = passes_on p q r h k
passes_first p q r (deed ∷ deeds) h k = takes_later p q deed (λ next. LeadsTo next deeds r) h k

pub leads_on : {W : Type 0} (p q r : Plan W) (first second : List Deed) → LeadsTo p first q → LeadsTo q second r → LeadsTo p (first ++ second) r
leads_on p q r [] second h k = passes_first p q r second h k
leads_on p q r (deed ∷ first) second h k =
    takes_then p deed (λ next. LeadsTo next first q) (λ next. LeadsTo next (first ++ second) r) (λ next m. leads_on next q r first second m k) h

-- a state of the client is passed
pub passed : {W : Type 0} (c : Client) (p q : Plan W) (deeds : List Deed) → LeadsTo p deeds q → LeadsTo (Reaches c p) deeds q
passed c p q [] h = inr h
passed c p q (deed ∷ deeds) h = h

-- one call
pub one_call : {W : Type 0} (c : Client) (event : Event) (reply : Reply) (go_on : Reply → Plan W) → LeadsTo (submitting c event go_on) (called event reply ∷ []) (Reaches c (go_on reply))
one_call c event reply go_on = (refl, inl refl)

-- something is shown
pub one_shown : {W : Type 0} (sight : Sight) (p : Plan W) → LeadsTo (Shows sight p) (Shown sight ∷ []) p
one_shown sight p = (refl, here p)
