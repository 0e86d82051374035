use Rattle.history_laws.proofs.Numbered.{numbered}
use Rattle.history_laws.proofs.reports_are_numbered.Goals as goal

pub returns : goal.returns
returns c = numbered
