use Rattle.step_core.proofs.Dropped.{has_by_down}
use Rattle.step_core.proofs.state.Tables.down.Goals as goal

pub change_lsps-requires-clause-stand : goal.change_lsps-requires-clause-stand
change_lsps-requires-clause-stand c = has_by_down c.self.inside.network.base _ c.args.peer c.in_ok-effect.effect c.lsps.ensures c.in_ok-effect.ensures.effect
