-- The base with which a further file of the journal begins.
use Rattle.std.specs.Prelude.{ℕ, List, Option}
use Rattle.std.specs.Io.KnownBytes.{Appends}
use Rattle.te_base.specs.Ted.{Ted}
use Rattle.step_core.specs.States.{empty}
use Rattle.step_core.specs.declared.event.Event.{Event}
use Rattle.history_tokens.specs.declared.rule.Happening.{Happening}
use Rattle.history_seats.specs.Past.{steps_at}
use Rattle.base_lines.specs.declared.placed.PlacedBase.{PlacedBase}
use Rattle.journal_writing.specs.Bases.{base_before, file_beginning}

-- what was known before the step of this place: all steps before it, of the one history of which this has been seen, lead
-- there from the network of the link text
unfoldable pub base_at : Ted → List (Happening Event) → ℕ → PlacedBase
base_at text past place = base_before (empty text) (steps_at text past) place

-- A file of the run has begun whose first step has this place: its head with the link text, and what was known before
-- that step. Nothing else was written.
abbrev pub Begins : (run links : List ℕ) (text : Ted) (past : List (Happening Event)) (place : ℕ) (old new : Option (List ℕ)) → Type 0
Begins run links text past place old new = Appends old new (file_beginning run links (base_at text past place))
