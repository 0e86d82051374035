-- What a call does, as a plan: the events that it submits one after the other, each chosen by the replies to those
-- before it, what it shows between them, and the states that its client passes on the way.
use Rattle.std.specs.Prelude.{◌≡◌, ◌⊎◌, List, [], ◌∷◌}
use Rattle.step_core.specs.declared.event.Event.{Event}
use Rattle.step_core.specs.declared.event.Reply.{Reply}
use Rattle.engine_core.specs.Deeds.{Deed, Sight, Called, Shown}
use Rattle.engine_core.specs.declared.client.Client.{Client}

-- What is left to do: nothing, with a result; or the client is as given, then the rest; or something is to be shown,
-- then the rest; or an event is to be submitted, and its reply decides the rest.
pub data Plan (W : Type 0) : Type 0 where
  Returns : W → Plan W
  Reaches : Client → Plan W → Plan W
  Shows : Sight → Plan W → Plan W
  Submits : Event → (Reply → Plan W) → Plan W

-- an event is submitted, and until its reply is answered the client stays as it was
abbrev pub submitting : {W : Type 0} → Client → Event → (Reply → Plan W) → Plan W
submitting c event go_on = Reaches c (Submits event (λ reply. Reaches c (go_on reply)))

-- one plan leads to another without anything done to the store
abbrev pub Passes : {W : Type 0} → Plan W → Plan W → Type 0
Passes (Reaches c plan) rest = (Reaches c plan ≡ rest) ⊎ Passes plan rest
Passes plan rest = plan ≡ rest

-- the next thing that a plan does is this deed, and this holds of the rest
abbrev pub Takes : {W : Type 0} → Plan W → Deed → (Plan W → Type 0) → Type 0
Takes (Returns w) deed On = ⊥
Takes (Reaches c plan) deed On = Takes plan deed On
Takes (Shows sight plan) (Shown seen) On = (seen ≡ sight) × On plan
Takes (Shows sight plan) (Called call) On = ⊥
Takes (Submits event go_on) (Called call) On = (call.event ≡ event) × On (go_on call.reply)
Takes (Submits event go_on) (Shown seen) On = ⊥

-- these deeds, in order, lead from one plan to what is left of it
abbrev pub LeadsTo : {W : Type 0} → Plan W → List Deed → Plan W → Type 0
LeadsTo plan [] rest = Passes plan rest
LeadsTo plan (deed ∷ deeds) rest = Takes plan deed (λ next. LeadsTo next deeds rest)
