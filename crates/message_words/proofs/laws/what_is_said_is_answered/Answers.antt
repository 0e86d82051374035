use Rattle.message_words.proofs.Answering.{answered}
use Rattle.message_words.proofs.laws.what_is_said_is_answered.Goals as goal

pub returns : goal.returns
returns c = λ fault. answered fault
