use Rattle.std.proofs.Common.{rules, ◌≡◌, All, subst, sym}
use Rattle.te_base.specs.Ted.{IsLinkAmong}
use Rattle.te_snapshot.specs.Leaving.{entering, IsArcAmong}
use Rattle.te_snapshot.specs.Network.{Network}
use Rattle.te_snapshot.proofs.Arcs.{entering_among}
use Rattle.te_snapshot.proofs.topology.Topology.entering.Goals as goal

pub returns-clause-sound : goal.returns-clause-sound
returns-clause-sound c =
    let n = c.args.self.now in
    let same : c.at.result.now ≡ entering n.links c.args.node = search rules in
    let links : All (IsLinkAmong n.nodes) n.links = subst (λ (m : Network). All (IsLinkAmong m.nodes) m.links) c.self.view_is c.self.invariant.sound.links in
    subst (All (IsArcAmong n.nodes)) (sym same) (entering_among n.nodes n.links c.args.node links)
