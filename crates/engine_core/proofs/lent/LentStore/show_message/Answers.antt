use Rattle.engine_core.specs.Deeds.{Delivered}
use Rattle.engine_core.specs.LendingLaws.{moves_shown}
use Rattle.engine_core.proofs.lent.LentStore.show_message.Goals as goal

pub returns : goal.returns
returns c = moves_shown c.args.self.now (Delivered c.args._message.now)
