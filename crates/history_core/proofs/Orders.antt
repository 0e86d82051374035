-- Histories from states that differ only in the order of their lists.
use Rattle.std.proofs.Common.{List, [], ◌∷◌, ◌∙◌, ap}
use Rattle.step_core.specs.Consistent.{IsConsistent}
use Rattle.step_core.specs.Laws.{AreAlike}
use Rattle.step_core.specs.States.{State}
use Rattle.step_core.specs.Steps.{step}
use Rattle.step_core.proofs.AlikeSteps.{step_alike}
use Rattle.step_core.proofs.ConsistentSteps.{step_keeps}
use Rattle.history_core.specs.Briefs.{brief_of}
use Rattle.history_core.specs.Histories.{IsLegalFrom, replay}
use Rattle.history_core.specs.declared.step.Step.{Step}

-- a history that is legal from one state is legal from the other, and leads to states that differ only in the order
pub same_history : (s t : State) (history : List Step) → IsConsistent s → AreAlike s t → IsLegalFrom s history → IsLegalFrom t history × AreAlike (replay s history) (replay t history)
same_history s t [] c alike legal = (tt, alike)
same_history s t (x ∷ xs) c alike legal =
    let here = step_alike s t x.event c alike in
    let rest = same_history (step s x.event).state (step t x.event).state xs (step_keeps s x.event c).consistent here.1 legal.1 in
    ((legal.0 ∙ ap brief_of here.0, rest.0), rest.1)
