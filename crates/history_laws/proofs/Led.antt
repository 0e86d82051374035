-- If each step keeps a property, it holds of the state to which a history leads.
use Rattle.std.proofs.Common.{◌≡◌, List, [], ◌∷◌, ap, subst, sym}
use Rattle.te_base.specs.Ted.{Ted}
use Rattle.step_core.specs.Consistent.{IsConsistent}
use Rattle.step_core.specs.Laws.{AreAlike}
use Rattle.step_core.specs.States.{State, empty}
use Rattle.step_core.specs.Steps.{step}
use Rattle.step_core.specs.declared.event.Event.{Event}
use Rattle.step_core.proofs.AlikeSteps.{step_alike}
use Rattle.step_core.proofs.ConsistentSteps.{step_keeps}
use Rattle.history_core.specs.Histories.{Content, Start, StartsFromText, Replays, replay}
use Rattle.history_core.specs.declared.step.Step.{Step}

after : (P : State → Type 0) → ((s : State) (event : Event) → P s → P (step s event).state) → (s : State) (steps : List Step) → P s → P (replay s steps)
after P keeps s [] here = here
after P keeps s (x ∷ xs) here = after P keeps (step s x.event).state xs (keeps s x.event here)

-- if P holds of the start, and each step keeps it, it holds of the state
led : (P : State → Type 0) → ((s : State) (event : Event) → P s → P (step s event).state) → (d : Content) → Replays d → P d.start.state → P d.state
led P keeps d whole first =
    let past = whole.past.1 in
    let base : P d.base = subst P past.replays.leads (after P keeps d.start.state whole.past.0 first) in
    subst P whole.kept.leads (after P keeps d.base d.history base)

-- if P holds before anything is reported, and each step keeps it, it holds of the state
pub led_from_text : (P : State → Type 0) → ((te : Ted) → P (empty te)) → ((s : State) (event : Event) → P s → P (step s event).state) → (d : Content) → Replays d → StartsFromText d → P d.state
led_from_text P first keeps d whole starts =
    let te : Ted = d.start.state.te in
    let start : empty te ≡ d.start.state = sym (ap (λ (start : Start). start.state) starts) in
    led P keeps d whole (subst P start (first te))

pub consistent : (d : Content) → Replays d → IsConsistent d.state
consistent d whole = led IsConsistent (λ s event c. (step_keeps s event c).consistent) d whole whole.start.consistent

pub same_reply : (d e : Content) (event : Event) → Replays d → AreAlike d.state e.state → (step d.state event).reply ≡ (step e.state event).reply
same_reply d e event whole alike = (step_alike d.state e.state event (consistent d whole) alike).0

pub same_state : (d e : Content) (event : Event) → Replays d → AreAlike d.state e.state → AreAlike (step d.state event).state (step e.state event).state
same_state d e event whole alike = (step_alike d.state e.state event (consistent d whole) alike).1
