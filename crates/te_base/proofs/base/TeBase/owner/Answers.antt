use Rattle.te_base.proofs.Ownership.{owner_of-iff}
use Rattle.te_base.proofs.Soundness.{owner_within}
use Rattle.te_base.proofs.base.TeBase.owner.Goals as goal

pub returns-clause-owns : goal.returns-clause-owns
returns-clause-owns c = rw (c.node.ensures, ← c.self.view_is) (owner_of-iff _ _ _ c.self.invariant.owned c.args.address)

pub returns-clause-node : goal.returns-clause-node
returns-clause-node c = rw (c.node.ensures, ← c.self.view_is) (owner_within _ _ _ c.self.invariant.owners)
