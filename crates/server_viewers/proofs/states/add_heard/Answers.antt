use Rattle.std.proofs.lemmas.Result.{on_ok_weaker}
use Rattle.server_viewers.proofs.states.add_heard.Goals as goal

pub returns : goal.returns
returns g c = on_ok_weaker c.add_states.result (λ h. (c.hear.new.heard, h)) c.add_states.ensures
