use Rattle.message_words.proofs.laws.what_is_written_is_said.Goals as goal

pub returns : goal.returns
returns c = λ message old new is normal fit says. rw (c.messages_are_read_again.ensures message is normal fit) at says
