use Rattle.std.proofs.Common.{◌∙◌, ap, is_some}
use Rattle.std.specs.Map.{lookup}
use Rattle.pce_engine.specs.Sessions.{is_peer}
use Rattle.pce_engine.proofs.Placing.{lives_placed}
use Rattle.pce_engine.proofs.sessions.Sessions.lives.Goals as goal

pub returns : goal.returns
returns c =
    c.contains_key.ensures
    ∙ lives_placed (is_peer c.args.peer) c.self.inside.clients c.self.inside.places.entries c.self.invariant
    ∙ ap (λ sessions. is_some (lookup (is_peer c.args.peer) sessions)) c.self.view_is
