use Rattle.server_counts.proofs.Summing.{counted}
use Rattle.server_counts.proofs.laws.steps_are_counted.Goals as goal

pub returns : goal.returns
returns c = λ happened few. (counted happened few).1
