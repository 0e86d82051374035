use Rattle.step_core.proofs.AlikeSteps.{step_alike}
use Rattle.step_core.proofs.laws.order_makes_no_difference.Goals as goal

pub returns-clause-replies : goal.returns-clause-replies
returns-clause-replies c s t event consistent alike = (step_alike s t event consistent alike).0

pub returns-clause-states : goal.returns-clause-states
returns-clause-states c s t event consistent alike = (step_alike s t event consistent alike).1
