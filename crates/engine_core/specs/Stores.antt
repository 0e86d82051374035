-- What a call leaves in a store and in a client.
use Rattle.std.specs.Prelude.{◌≡◌, ℕ, List, [], Option, None, Some, Result, Ok, Err}
use Rattle.history_core.specs.declared.fault.Fault.{Fault}
use Rattle.history_core.specs.declared.fault.Fault.TheVariants.{OutOfMemory, HistoryFull}
use Rattle.engine_core.specs.Deeds.{Deed, calls_of}
use Rattle.engine_core.specs.Engine.{ending}
use Rattle.engine_core.specs.Joining.{joined_after}
use Rattle.engine_core.specs.Plans.{Plan, Returns, Reaches, Shows, Submits, LeadsTo}
use Rattle.engine_core.specs.declared.client.Client.{Client}

-- ---- a plan that is carried out over a store

-- Some deeds were done. They lead the store from `old` to `new`, and one plan to another.
pub record Carries {S W : Type 0} (moves : S → List Deed → S → Type 0) (old new : S) (client after : Client) (plan rest : Plan W) : Type 0 where
  pub deeds : List Deed
  pub made : moves old deeds new
  pub leads : LeadsTo plan deeds rest
  pub joined : after.joined ≡ joined_after client.joined (calls_of deeds)

-- memory may run out anywhere; the history is full only if an event is to be submitted
abbrev pub MayFail : {S W : Type 0} → (S → Type 0) → S → Plan W → Fault → Type 0
MayFail is_full store rest OutOfMemory = Unit {0}
MayFail is_full store (Returns w) HistoryFull = ⊥
MayFail is_full store (Reaches c plan) HistoryFull = ⊥
MayFail is_full store (Shows sight plan) HistoryFull = ⊥
MayFail is_full store (Submits event go_on) HistoryFull = is_full store

-- A fault: some deeds were done, which brought the client to where it is now, and the rest of the plan was not carried
-- out.
pub record BreaksOff {S W : Type 0} (moves : S → List Deed → S → Type 0) (is_full : S → Type 0) (old new : S) (client after : Client) (plan : Plan W) (fault : Fault) : Type 0 where
  pub rest : Plan W
  pub carried : Carries moves old new client after plan (Reaches after rest)
  pub cause : MayFail is_full new rest fault

-- What a call leaves: the plan is carried out up to what goes on, or up to a fault.
abbrev pub Serves : {X S W : Type 0} → Result X Fault → (S → List Deed → S → Type 0) → (S → Type 0) → S → S → Client → Client → Plan W → (Client → Plan W) → Type 0
Serves (Ok x) moves is_full old new client after plan go_on = Carries moves old new client after plan (go_on after)
Serves (Err fault) moves is_full old new client after plan go_on = BreaksOff moves is_full old new client after plan fault

-- ---- a call that ends the session after a fault

-- The plan broke off with the client as in `reached`, whose session was then ended: its output is what it was there,
-- and no Close is added.
pub record EndsAt {S : Type 0} (moves : S → List Deed → S → Type 0) (is_full : S → Type 0) (old new : S) (client after : Client) (plan : Plan Client) (fault : Fault) : Type 0 where
  pub reached : Client
  pub broke_off : BreaksOff moves is_full old new client reached plan fault
  pub ended : after ≡ ending None None reached

abbrev pub ServesOrEnds : {X S : Type 0} → Result X Fault → (S → List Deed → S → Type 0) → (S → Type 0) → S → S → Client → Client → Plan Client → Type 0
ServesOrEnds (Ok x) moves is_full old new client after plan = Carries moves old new client after plan (Returns after)
ServesOrEnds (Err fault) moves is_full old new client after plan = EndsAt moves is_full old new client after plan fault

-- ---- room for more steps

-- Some n: no call was made, the history was found full and then rolled, with n steps before its base. None: nothing was
-- done
abbrev pub MakesRoom : {S : Type 0} → (S → List Deed → S → Type 0) → (S → Type 0) → (S → ℕ → S → Type 0) → S → S → Option ℕ → Type 0
MakesRoom {S} moves is_full rolls old new None = moves old [] new
MakesRoom {S} moves is_full rolls old new (Some steps) = (mid : S) × moves old [] mid × is_full mid × rolls mid steps new
