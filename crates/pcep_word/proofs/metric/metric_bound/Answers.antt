use Rattle.pcep_word.proofs.Reading.{bound_computes}
use Rattle.pcep_word.proofs.metric.metric_bound.Goals as goal

pub returns-clause-value : goal.returns-clause-value
returns-clause-value c = bound_computes c.args.word c.greatest_below.result c.greatest_below.ensures.found c.greatest_below.ensures.none
