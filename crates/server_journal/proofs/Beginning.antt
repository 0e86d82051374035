-- The base of the last roll is what the steps before it lead to, and a file begins with it.
use Rattle.std.proofs.Common.{◌≡◌, ℕ, List, Option, ap, subst, ◌∙◌}
use Rattle.std.specs.Io.KnownBytes.{Appends}
use Rattle.te_base.specs.Ted.{Ted}
use Rattle.step_core.specs.States.{State, empty}
use Rattle.step_core.specs.declared.event.Event.{Event}
use Rattle.history_core.specs.Histories.{Content, Start}
use Rattle.history_tokens.specs.declared.rule.Happening.{Happening}
use Rattle.history_seats.specs.Past.{database_at, steps_at}
use Rattle.history_seats.proofs.AllSteps.{are_all}
use Rattle.history_seats.proofs.Pasts.{at_start}
use Rattle.base_lines.specs.declared.placed.PlacedBase.{PlacedBase}
use Rattle.journal_writing.specs.Bases.{rolled_base, base_before, file_beginning}
use Rattle.journal_writing.proofs.Led.{led_to}
use Rattle.server_journal.specs.Bases.{base_at}

pub known_before : (text : Ted) (past : List (Happening Event)) (place : ℕ) (b : PlacedBase) → ((database_at text past).rolled ≡ place) × (b ≡ rolled_base (database_at text past)) → b ≡ base_at text past place
unfolding base_at
known_before text past place b sees =
    let d : Content = database_at text past in
    let start : d.start.state ≡ empty text = ap (λ (start : Start). start.state) (at_start text past) in
    led_to place d (steps_at text past) b (are_all text past) sees ∙ ap (λ (s : State). base_before s (steps_at text past) place) start

-- what was written of a base was written of its equal
pub same_base : (a b : Option (List ℕ)) (run links : List ℕ) (x y : PlacedBase) → x ≡ y → Appends a b (file_beginning run links x) → Appends a b (file_beginning run links y)
same_base a b run links x y is written = subst (λ (z : PlacedBase). Appends a b (file_beginning run links z)) is written
