use Rattle.history_laws.proofs.Quiet.{quiet}
use Rattle.history_laws.proofs.quiet_if_down.Goals as goal

pub returns : goal.returns
returns c = quiet
