use Rattle.pcep_session.proofs.Endings.{run_out}
use Rattle.pcep_session.proofs.laws.turns_run_out.Goals as goal

pub returns : goal.returns
returns c = run_out
