use Rattle.pcep_word.proofs.Reading.{bandwidth_written, bound_written, bandwidth_is_of, bound_known, bound_small, word_fits}
use Rattle.pcep_word.proofs.metric.words_are_read_again.Goals as goal

pub returns : goal.returns
returns c = record { bandwidths = bandwidth_written; bounds = bound_written; known = bandwidth_is_of; known_bounds = bound_known; small = bound_small; fits = word_fits }
