use Rattle.journal_writing.proofs.Seen.{of_all}
use Rattle.journal_writing.proofs.laws.all_seen.Goals as goal

pub returns : goal.returns
returns c = of_all
