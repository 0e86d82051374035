use Rattle.server_talk.proofs.operator.write_unread.Goals as goal

pub returns-in-Device : goal.returns-in-Device
returns-in-Device g c = rw c.in-Device.is c.write.ensures
