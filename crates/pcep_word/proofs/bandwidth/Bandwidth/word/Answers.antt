use Rattle.pcep_word.proofs.Spelling.{word_exact}
use Rattle.pcep_word.proofs.Reading.{bandwidth_again}
use Rattle.pcep_word.proofs.bandwidth.Bandwidth.word.Goals as goal

pub returns-clause-exact : goal.returns-clause-exact
returns-clause-exact c = rw (← c.self.view_is) (word_exact c.self.inside.value c.metric_word.result c.self.invariant c.metric_word.ensures.least)

pub returns-clause-read_again : goal.returns-clause-read_again
returns-clause-read_again c = rw (← c.self.view_is) (bandwidth_again c.self.inside.value c.metric_word.result c.self.invariant c.metric_word.ensures.least)
