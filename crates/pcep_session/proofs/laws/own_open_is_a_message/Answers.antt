use Rattle.pcep_session.proofs.OwnOpen.{is_spelled}
use Rattle.pcep_session.proofs.laws.own_open_is_a_message.Goals as goal

pub returns : goal.returns
returns c = is_spelled
