use Rattle.history_laws.proofs.Led.{consistent}
use Rattle.history_laws.proofs.consistent.Goals as goal

pub returns : goal.returns
returns c = consistent
