use Rattle.history_seats.proofs.AllSteps.{are_all}
use Rattle.history_seats.proofs.laws.all_steps.Goals as goal

pub returns : goal.returns
returns c = are_all
