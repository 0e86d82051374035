use Rattle.step_core.proofs.Dropped.{has_by_removal}
use Rattle.step_core.proofs.state.Tables.delete.Goals as goal

pub ask_peer-requires-clause-stand : goal.ask_peer-requires-clause-stand
ask_peer-requires-clause-stand c = has_by_removal c.self.inside.network.base _ c.args.peer c.next_number-number.result c.args.plsp c.in_ok-effect.effect c.lsps.ensures c.in_ok-effect.ensures.effect
