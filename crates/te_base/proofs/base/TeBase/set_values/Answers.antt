use Rattle.te_base.specs.Views.{base_in}
use Rattle.te_base.proofs.Values.{set-sound}
use Rattle.te_base.proofs.base.TeBase.set_values.Goals as goal

pub invariant_of-self : goal.invariant_of-self
invariant_of-self c = rw (c.set_listed_values.ensures.links) (set-sound (base_in c.self.inside.parts) c.args.link c.args.values c.set_listed_values.ensures.ranges c.self.invariant)
