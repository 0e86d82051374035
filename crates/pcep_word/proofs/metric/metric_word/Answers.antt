use Rattle.pcep_word.proofs.Spelling.{word_computes}
use Rattle.pcep_word.proofs.metric.metric_word.Goals as goal

pub returns-clause-value : goal.returns-clause-value
returns-clause-value c = word_computes c.args.value c.least_word.result c.requires c.least_word.ensures
