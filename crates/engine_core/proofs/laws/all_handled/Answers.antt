use Rattle.engine_core.proofs.Handling.{all_handled}
use Rattle.engine_core.proofs.laws.all_handled.Goals as goal

pub returns : goal.returns
returns c = all_handled
