-- A roll under the lock: what had happened before it, and what the seat has seen.
use Rattle.std.proofs.Common.{◌≡◌, ℕ, Bool, true, List, [], ◌∷◌, ◌++◌, Some, ap, ◌∙◌}
use mathlib.Core.List.{IsPrefix}
use Rattle.te_base.specs.Ted.{Ted}
use Rattle.step_core.specs.declared.event.Event.{Event}
use Rattle.history_core.specs.Histories.{Content, steps_of}
use Rattle.history_tokens.specs.declared.rule.Happening.{Happening}
use Rattle.history_tokens.specs.declared.rule.Happening.TheVariants.{Rolled}
use Rattle.history_seats.specs.Past.{database_at, with_seen}
use Rattle.history_seats.specs.Receipts.{SeatContent}
use Rattle.history_seats.proofs.Pasts.{at_more}
use Rattle.shared_pce.specs.Turns.{RolledUp, RollsIf}

-- all steps that were taken lie before the new base
pub rolled_steps : (text : Ted) (past after : List (Happening Event)) (d : Content) → after ≡ past ++ Rolled ∷ [] → d ≡ database_at text after → d.rolled ≡ steps_of (database_at text past)
rolled_steps text past after d is d_is = ap (λ (d : Content). d.rolled) (d_is ∙ ap (database_at text) is ∙ at_more text past Rolled)

pub rolled_up : (text : Ted) (past after : List (Happening Event)) (d : Content) (old new : SeatContent) (steps : ℕ) → IsPrefix old.seen past → after ≡ past ++ Rolled ∷ [] → d ≡ database_at text after → steps ≡ d.rolled → new ≡ with_seen after old → RolledUp text old new steps
rolled_up text past after d old new steps begins is d_is steps_is new_is =
    (past, begins, steps_is ∙ rolled_steps text past after d is d_is, new_is ∙ ap (λ (h : List (Happening Event)). with_seen h old) is)

-- the seat was shown what had happened, and then the roll
pub rolls_if : (due : Content → Bool) (text : Ted) (past after : List (Happening Event)) (d : Content) (old shown new : SeatContent) (steps : ℕ)
    → IsPrefix old.seen past → due (database_at text past) ≡ true → shown ≡ with_seen past old → after ≡ past ++ Rolled ∷ [] → d ≡ database_at text after → steps ≡ d.rolled → new ≡ with_seen after shown
    → RollsIf due text old new (Some steps)
rolls_if due text past after d old shown new steps begins due_is shown_is is d_is steps_is new_is =
    (past, begins, due_is, steps_is ∙ rolled_steps text past after d is d_is, new_is ∙ ap (λ (s : SeatContent). with_seen after s) shown_is ∙ ap (λ (h : List (Happening Event)). with_seen h old) is)
