use Rattle.history_laws.proofs.KnownLaw.{of_known_peers}
use Rattle.history_laws.proofs.of_known_peers.Goals as goal

pub returns : goal.returns
returns c = of_known_peers
