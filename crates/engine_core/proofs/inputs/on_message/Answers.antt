use Rattle.engine_core.specs.Deeds.{Delivered}
use Rattle.engine_core.specs.Engine.{taking}
use Rattle.engine_core.proofs.Carrying.{shown_first}
use Rattle.engine_core.proofs.inputs.on_message.Goals as goal

pub returns : goal.returns
returns g c = λ go_on.
    shown_first g.S.Store.moves g.S.Store.is_full g.met.S.Store.moves_on c.take_message.result c.args.store.now c.show_message.new.self c.take_message.new.store c.args.client.now c.take_message.new.client (Delivered c.args.message)
    (taking c.args.peer c.args.message c.args.client.now go_on) go_on c.show_message.ensures (c.take_message.ensures go_on)
