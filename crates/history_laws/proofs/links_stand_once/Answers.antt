use Rattle.history_laws.proofs.LinksOnce.{links_once}
use Rattle.history_laws.proofs.links_stand_once.Goals as goal

pub returns : goal.returns
returns c = links_once
