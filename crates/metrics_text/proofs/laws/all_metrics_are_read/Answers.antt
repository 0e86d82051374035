use Rattle.metrics_text.proofs.Named.{all_read}
use Rattle.metrics_text.proofs.laws.all_metrics_are_read.Goals as goal

pub returns : goal.returns
returns c = all_read
