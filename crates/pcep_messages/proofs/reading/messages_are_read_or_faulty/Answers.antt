use Rattle.pcep_objects.proofs.Answered.{one_answer}
use Rattle.pcep_messages.specs.Messages.{message_in}
use Rattle.pcep_messages.proofs.reading.messages_are_read_or_faulty.Goals as goal

pub returns : goal.returns
returns c = λ bytes. one_answer (message_in bytes)
