use Rattle.pcep_word.proofs.Spelling.{zero_is}
use Rattle.pcep_word.proofs.bandwidth.Bandwidth.zero.Goals as goal

pub invariant_of-result : goal.invariant_of-result
invariant_of-result c = zero_is
