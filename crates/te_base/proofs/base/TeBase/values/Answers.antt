use Rattle.te_base.proofs.Values.{links-ranges}
use Rattle.te_base.proofs.base.TeBase.values.Goals as goal

pub all_values-requires : goal.all_values-requires
all_values-requires c = rw (c.as_slice.ensures) (links-ranges _ _ c.self.invariant.links)
