use Rattle.std.proofs.Common.{◌≡◌, List, ℕ, IfOk, subst, ◌∙◌, ap}
use Rattle.std.specs.Map.{keys_of}
use Rattle.pce_engine.proofs.Placing.{peers_placed}
use Rattle.pce_engine.proofs.sessions.Sessions.peers.Goals as goal

pub returns : goal.returns
returns c =
    let kept = peers_placed c.self.inside.clients c.self.inside.places.entries c.self.invariant ∙ ap keys_of c.self.view_is in
    subst (λ (peers : List ℕ). IfOk c.peers_of.result (λ found. found.items ≡ peers)) kept c.peers_of.ensures
