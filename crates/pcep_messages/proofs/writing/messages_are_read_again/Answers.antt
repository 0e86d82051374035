use Rattle.pcep_messages.proofs.MessageAgain.{again}
use Rattle.pcep_messages.proofs.writing.messages_are_read_again.Goals as goal

pub returns : goal.returns
returns c = λ message is normal fit. again message is normal fit
