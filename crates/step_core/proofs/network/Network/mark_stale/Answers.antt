use Rattle.step_core.proofs.Booked.{IsBooked-stale}
use Rattle.step_core.proofs.network.Network.mark_stale.Goals as goal

pub invariant_of-self : goal.invariant_of-self
invariant_of-self c = rw c.mark_stale.ensures.stale (IsBooked-stale c.self.inside.te c.self.inside.lsps.content c.self.inside.book c.args.peer c.self.invariant)
