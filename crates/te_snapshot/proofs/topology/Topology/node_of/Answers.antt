use Rattle.te_snapshot.proofs.Ends.{node_within}
use Rattle.te_snapshot.proofs.topology.Topology.node_of.Goals as goal

pub returns-clause-within : goal.returns-clause-within
returns-clause-within c = rw (c.node_of.ensures, c.deref.ensures, ← c.self.view_is) (node_within _ _ c.args.end c.self.invariant.sound.owners)
