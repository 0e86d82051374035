use Rattle.pcep_session.proofs.Calling.{all_met}
use Rattle.pcep_session.proofs.laws.calls_are_a_run.Goals as goal

pub returns : goal.returns
returns c = all_met
