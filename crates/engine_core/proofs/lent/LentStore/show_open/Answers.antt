use Rattle.engine_core.specs.Deeds.{Opened}
use Rattle.engine_core.specs.LendingLaws.{moves_shown}
use Rattle.engine_core.proofs.lent.LentStore.show_open.Goals as goal

pub returns : goal.returns
returns c = moves_shown c.args.self.now (Opened c.args._peer_open)
