use Rattle.pcep_session.proofs.Endings.{turns_end}
use Rattle.pcep_session.proofs.laws.turns_end.Goals as goal

pub returns : goal.returns
returns c = turns_end
