use Rattle.item_messages.proofs.ReportsAgain.{again}
use Rattle.item_messages.proofs.laws.reports_are_read_again.Goals as goal

pub returns : goal.returns
returns c = λ report is fit. again report is fit
