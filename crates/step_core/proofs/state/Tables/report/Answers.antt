use Rattle.step_core.proofs.Dropped.{has_by_report}
use Rattle.step_core.proofs.state.Tables.report.Goals as goal

pub change_lsps-requires-clause-stand : goal.change_lsps-requires-clause-stand
change_lsps-requires-clause-stand c =
    has_by_report c.self.inside.network.base _ c.self.inside.network.te _ c.args.peer c.args.report.now c.in-Ok.effect c.lsps.ensures c.te_base.ensures c.in-Ok.ensures.given
