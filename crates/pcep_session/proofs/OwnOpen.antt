-- The Open of a session is the spelling of a message.
use Rattle.std.proofs.Common.{◌≡◌, refl}
use Rattle.pcep_messages.specs.Spelling.{object_spelled, written}
use Rattle.pcep_session.specs.Calls.{own_open, own_opening}

pub is_spelled : own_open ≡ written own_opening
unfolding object_spelled
is_spelled = refl
