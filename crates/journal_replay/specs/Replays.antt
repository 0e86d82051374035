-- What a line of a journal does to what is known, and whether the recorded reply is the one that the event gets.
use Rattle.std.specs.Prelude.{ℕ, ◌≡◌, ◌≢◌, ◌⊎◌, ◌+◌, ◌==◌, Bool, true, false, List, [], ◌∷◌, length, Option, Some, None, option_map, if◌then◌else◌}
use Rattle.step_core.specs.States.{State}
use Rattle.step_core.specs.Steps.{step}
use Rattle.history_core.specs.Briefs.{brief_of}
use Rattle.history_core.specs.Histories.{Content, ReplaysFrom, steps_of}
use Rattle.history_core.specs.declared.step.Brief.{Brief}
use Rattle.history_core.specs.declared.step.Step.{Step}
use Rattle.step_lines.specs.Lines.{step_in}
use Rattle.step_lines.specs.declared.placed.PlacedStep.{PlacedStep}
use Rattle.journal_files.specs.Moments.{is_moment}
use Rattle.journal_replay.specs.declared.taken.Taken.{Taken}
use Rattle.journal_replay.specs.declared.taken.Taken.TheVariants.{AsRecorded, Moment, Differs, BadLine}

-- what is known once the steps before this place were replayed
pub record Point : Type 0 where
  pub state : State
  pub next : ℕ

abbrev pub point_of : Content → Point
point_of d = record { state = d.state; next = steps_of d }

-- the reply that the event gets there
abbrev pub replayed_brief : State → PlacedStep → Brief
replayed_brief s p = brief_of (step s p.event).reply

abbrev pub after : Point → PlacedStep → Point
after at p = record { state = (step at.state p.event).state; next = at.next + 1 }

-- ---- one line

-- what becomes of a step that was read, and what is known then
abbrev pub TakesStep : Point → PlacedStep → Taken → Point → Type 0
TakesStep at p AsRecorded to = (p.place ≡ at.next) × (p.brief ≡ replayed_brief at.state p) × (to ≡ after at p)
TakesStep at p (Differs place recorded replayed) to =
    (p.place ≡ at.next) × (place ≡ p.place) × (recorded ≡ p.brief) × (replayed ≡ replayed_brief at.state p) × (recorded ≢ replayed) × (to ≡ after at p)
TakesStep at p BadLine to = (p.place ≢ at.next) × (to ≡ at)
TakesStep at p Moment to = ⊥

abbrev pub TakesRead : Point → Option PlacedStep → Taken → Point → Type 0
TakesRead at (Some p) taken to = TakesStep at p taken to
TakesRead at None taken to = (taken ≡ BadLine) × (to ≡ at)

abbrev pub TakesBy : (moment : Bool) → Point → Option PlacedStep → Taken → Point → Type 0
TakesBy true at read taken to = (taken ≡ Moment) × (to ≡ at)
TakesBy false at read taken to = TakesRead at read taken to

-- what becomes of a line, and what is known then
abbrev pub Takes : Point → List ℕ → Taken → Point → Type 0
Takes at line taken to = TakesBy (is_moment line) at (step_in line) taken to

-- ---- all lines

-- each line is as recorded, or one with the time
abbrev pub AllAsRecorded : Point → List (List ℕ) → Point → Type 0
AllAsRecorded at [] to = to ≡ at
AllAsRecorded at (line ∷ lines) to = (mid : Point) × (Takes at line AsRecorded mid ⊎ Takes at line Moment mid) × AllAsRecorded mid lines to

-- a step as a history keeps it
abbrev pub kept : PlacedStep → Step
kept p = record { event = p.event; brief = p.brief }

abbrev pub with_step : ℕ → Option PlacedStep → Option (List Step) → Option (List Step)
with_step next None rest = None
with_step next (Some p) rest = if p.place == next then option_map (λ steps. kept p ∷ steps) rest else None

-- the steps that the lines record, from this place on; None if a line is bad
unfoldable pub recorded : ℕ → List (List ℕ) → Option (List Step)
recorded next [] = Some []
recorded next (line ∷ lines) = if is_moment line then recorded next lines else with_step next (step_in line) (recorded (next + 1) lines)

-- the lines record a history that is legal from what is known, and that leads to another moment
pub record RecordsLegal (at : Point) (lines : List (List ℕ)) (to : Point) : Type 0 where
  pub steps : List Step
  pub read : recorded at.next lines ≡ Some steps
  pub replays : ReplaysFrom at.state steps to.state
  pub next : to.next ≡ at.next + length steps
