use Rattle.shared_pce.proofs.Residuals.{all_noted}
use Rattle.shared_pce.proofs.residual_log.ResidualLog.note.Goals as goal

pub invariant_of-self : goal.invariant_of-self
invariant_of-self c = all_noted c.add.result c.args.rows.now c.self.inside.rows.items c.add.new.kept.items c.add.ensures.added c.add.ensures.unchanged c.requires c.self.invariant
