use Rattle.history_core.proofs.Rolling.{network_stays}
use Rattle.history_core.proofs.laws.network_stays.Goals as goal

pub returns : goal.returns
returns c = network_stays
