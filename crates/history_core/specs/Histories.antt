-- Histories: the steps that were taken from a state, and the state to which they lead.
use Rattle.std.specs.Prelude.{ℕ, ◌≡◌, ◌+◌, ◌^◌, ◌≤◌, Bool, ◌==◌, ◌||◌, List, [], ◌∷◌, ◌++◌, length, Result, Ok, Err, if◌then◌else◌}
use Rattle.std.specs.List.{count_by}
use Rattle.te_base.specs.Ted.{Ted}
use Rattle.step_core.specs.declared.event.Event.{Event}
use Rattle.step_core.specs.declared.event.Reply.{Reply}
use Rattle.step_core.specs.declared.base.Base as known
use Rattle.step_core.specs.Bases.{MayStand, known_in, state_over}
use Rattle.step_core.specs.Consistent.{IsConsistent}
use Rattle.step_core.specs.States.{State, empty}
use Rattle.step_core.specs.Steps.{step}
use Rattle.history_core.specs.declared.start.Start as placed
use Rattle.history_core.specs.declared.step.Step.{Step}
use Rattle.history_core.specs.declared.fault.Fault.{Fault}
use Rattle.history_core.specs.declared.fault.Fault.TheVariants.{HistoryFull}
use Rattle.step_core.specs.Sound.{IsSoundGrant}
use Rattle.history_core.specs.Briefs.{brief_of, is_grant}
use Rattle.history_core.specs.declared.step.Brief.TheVariants as brief

-- the state after the events of these steps, one by one
abbrev pub replay : State → List Step → State
replay s [] = s
replay s (x ∷ xs) = replay (step s x.event).state xs

-- each kept brief is that of the reply that the event gets there
abbrev pub IsLegalFrom : State → List Step → Type 0
IsLegalFrom s [] = Unit {0}
IsLegalFrom s (x ∷ xs) = (x.brief ≡ brief_of (step s x.event).reply) × IsLegalFrom (step s x.event).state xs

-- each step that was granted is sound in the states around it: the grant takes no bandwidth that isn't there
abbrev pub IsSoundFrom : State → List Step → Type 0
IsSoundFrom s [] = Unit {0}
IsSoundFrom s (x ∷ xs) = ((srp : ℕ) → x.brief ≡ brief.Granted srp → IsSoundGrant s x.event (step s x.event).state) × IsSoundFrom (step s x.event).state xs

-- how many of the steps are grants
abbrev pub grants_in : List Step → ℕ
grants_in steps = count_by (λ x. is_grant x.brief) steps

-- the greatest number of steps that are kept at a time
abbrev pub step_limit : ℕ
step_limit = 1048576

-- the greatest number of steps that are ever taken
abbrev pub last_step : ℕ
last_step = 2 ^ 62

-- what was known before the first step of which a database speaks; how many steps had been taken until then, and how
-- many of them were grants
pub record Start : Type 0 where
  pub state : State
  pub steps : ℕ
  pub grants : ℕ

-- the network of the link text, of which nothing was reported yet
abbrev pub beginning : Ted → Start
beginning te = record { state = empty te; steps = 0; grants = 0 }

-- what was read, over a network of these nodes and links, after so many steps and grants
abbrev pub start_over : Ted → known.Base → (steps grants : ℕ) → Start
start_over te b steps grants = record { state = state_over te b; steps = steps; grants = grants }

-- how contracts see a database: a state, with the kept steps that led to it from the base; how many steps were taken
-- before the base, and how many of them were grants; and where the steps of which it speaks start
pub record Content : Type 0 where
  pub state : State
  pub history : List Step
  pub base : State
  pub start : Start
  pub rolled : ℕ
  pub rolled_grants : ℕ

-- the steps start from the network of the link text, of which nothing was reported yet
abbrev pub StartsFromText : Content → Type 0
StartsFromText d = d.start ≡ beginning d.start.state.te

-- how many steps were ever taken
abbrev pub steps_of : Content → ℕ
steps_of d = d.rolled + length d.history

-- how many of them were grants
abbrev pub grants_of : Content → ℕ
grants_of d = d.rolled_grants + grants_in d.history

-- no further step can be kept
abbrev pub is_full : Content → Bool
is_full d = length d.history == step_limit || steps_of d == last_step

-- the history is legal from the start, and leads from there to the state
pub record ReplaysFrom (start : State) (history : List Step) (state : State) : Type 0 where
  pub legal : IsLegalFrom start history
  pub leads : replay start history ≡ state

-- these steps led from the start to the state, which makes `count` steps, `granted` of them grants, with those until
-- the start
pub record IsPast (start : Start) (past : List Step) (count granted : ℕ) (state : State) : Type 0 where
  pub steps : start.steps + length past ≡ count
  pub grants : start.grants + grants_in past ≡ granted
  pub replays : ReplaysFrom start.state past state

-- no count of what is known is above the number of steps that led to it, nor are the grants, and no more steps were
-- taken than ever are
pub record IsCounted (b : known.Base) (steps granted : ℕ) : Type 0 where
  pub changes : b.changes ≤ steps
  pub sessions : b.last_session ≤ steps
  pub tickets : b.last_ticket ≤ steps
  pub grants : granted ≤ steps
  pub taken : steps ≤ last_step

-- what holds of the start of every database: it is consistent and counted
pub record IsStart (start : Start) : Type 0 where
  pub consistent : IsConsistent start.state
  pub counted : IsCounted (known_in start.state) start.steps start.grants

-- the kept steps replay from the base to the state, and the counted number of steps led from the start to the base
pub record Replays (d : Content) : Type 0 where
  pub start : IsStart d.start
  pub kept : ReplaysFrom d.base d.history d.state
  pub past : (past : List Step) × IsPast d.start past d.rolled d.rolled_grants d.base

-- what holds of every database: it replays, the limits of kept steps and of all steps are observed, and its grants are
-- counted
pub record IsWhole (d : Content) (grants : ℕ) : Type 0 where
  pub replays : Replays d
  pub kept : length d.history ≤ step_limit
  pub taken : steps_of d ≤ last_step
  pub counted : grants ≡ grants_of d

-- the kept steps, from the base, are sound
abbrev pub IsSound : Content → Type 0
IsSound d = IsSoundFrom d.base d.history

-- a database over the network of its state
abbrev pub content : State → List Step → known.Base → placed.Start → ℕ → ℕ → Content
content state history base start rolled rolled_grants = record {
  state = state;
  history = history;
  base = state_over state.te base;
  start = start_over state.te start.base start.steps start.grants;
  rolled = rolled;
  rolled_grants = rolled_grants;
}

-- what is kept makes a whole database; the base may stand over the network, and the start has one value for each link
pub record IsKept (state : State) (history : List Step) (base : known.Base) (start : placed.Start) (rolled rolled_grants grants : ℕ) : Type 0 where
  pub whole : IsWhole (content state history base start rolled rolled_grants) grants
  pub stands : MayStand state.te base
  pub at_start : length start.base.values ≡ length state.te.links

-- no step was taken since the start
abbrev pub begun : Start → Content
begun start = record { state = start.state; history = []; base = start.state; start = start; rolled = start.steps; rolled_grants = start.grants }

abbrev pub nothing_happened : Ted → Content
nothing_happened te = begun (beginning te)

-- no step was taken since what was read, to which so many steps and grants had led
abbrev pub begun_over : Ted → known.Base → (steps grants : ℕ) → Content
begun_over te b steps grants = begun (start_over te b steps grants)

-- A history may begin at what was read, after so many steps and grants: it may stand over the network, and is counted.
pub record MayBegin (te : Ted) (b : known.Base) (steps grants : ℕ) : Type 0 where
  pub stands : MayStand te b
  pub counted : IsCounted b steps grants

abbrev pub kept_step : Event → Reply → Step
kept_step event reply = record { event = event; brief = brief_of reply }

-- the database after one more event: its state, and its history with the event and the brief of its reply
abbrev pub stepped : Content → Event → Reply → Content
stepped d event reply = record d { state = (step d.state event).state; history = d.history ++ kept_step event reply ∷ [] }

-- one event: its reply, and the database after it, unless no further step can be kept
abbrev pub applied : Content → Event → Result (Reply × Content) Fault
applied d event = if is_full d then Err HistoryFull else Ok ((step d.state event).reply, stepped d event (step d.state event).reply)

-- the state becomes the base, and no step is kept
abbrev pub rolled_up : Content → Content
rolled_up d = record { state = d.state; history = []; base = d.state; start = d.start; rolled = steps_of d; rolled_grants = grants_of d }
