use Rattle.std.proofs.Common.{length}
use Rattle.metrics_text.proofs.format.+put_more_labels.Given as goal

abbrev pub decreases-put_more_labels : goal.decreases-put_more_labels
decreases-put_more_labels l = length l.names.now
