use Rattle.pcep_word.proofs.Reading.{computes}
use Rattle.pcep_word.proofs.bandwidth.Bandwidth.of_word.Goals as goal

pub returns-clause-value : goal.returns-clause-value
returns-clause-value c = computes c.args.word c.least_above.result c.least_above.ensures.found c.least_above.ensures.none
