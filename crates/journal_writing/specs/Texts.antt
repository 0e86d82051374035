-- The lines of steps, one after the other, and the text that they make.
use Rattle.std.specs.Prelude.{ℕ, ◌+◌, List, [], ◌∷◌}
use Rattle.history_core.specs.declared.step.Step.{Step}
use Rattle.step_lines.specs.Lines.{line_of}
use Rattle.step_lines.specs.Normal.{IsStep}
use Rattle.step_lines.specs.declared.placed.PlacedStep.{PlacedStep}

-- a kept step at its place among all steps
abbrev pub placed : ℕ → Step → PlacedStep
placed place s = record { place = place; event = s.event; brief = s.brief }

-- a line for each step, from this place on
abbrev pub lines_of : ℕ → List Step → List (List ℕ)
lines_of place [] = []
lines_of place (s ∷ steps) = line_of (placed place s) ∷ lines_of (place + 1) steps

-- each of the steps is one whose line reads as it
abbrev pub AreSteps : ℕ → List Step → Type 0
AreSteps place [] = Unit {0}
AreSteps place (s ∷ steps) = IsStep (placed place s) × AreSteps (place + 1) steps
