use Rattle.pcep_word.proofs.Reading.{at_least_found, at_least_none}
use Rattle.asks.proofs.words.raised.Goals as goal

pub returns-clause-found : goal.returns-clause-found
returns-clause-found c = at_least_found c.args.number c.metric_word.result c.of_word.result c.metric_word.ensures.least c.of_word.ensures.found

pub returns-clause-none : goal.returns-clause-none
returns-clause-none c = at_least_none c.args.number c.metric_word.result c.of_word.result c.metric_word.ensures.least c.of_word.ensures.none
