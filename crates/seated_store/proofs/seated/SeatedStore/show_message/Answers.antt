use Rattle.engine_core.specs.Deeds.{Delivered}
use Rattle.seated_store.specs.SeatingLaws.{moves_shown}
use Rattle.seated_store.proofs.seated.SeatedStore.show_message.Goals as goal

pub returns : goal.returns
returns g c = moves_shown g.B.StepNumbers.text c.args.self.now.seat c.args.self.now.calls.items (Delivered c.args._message.now)
