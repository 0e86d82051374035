use Rattle.engine_core.specs.Engine.{joining}
use Rattle.engine_core.proofs.Carrying.{open_first}
use Rattle.engine_core.proofs.inputs.on_up.Goals as goal

pub returns : goal.returns
returns g c = λ go_on.
    open_first g.S.Store.moves g.S.Store.is_full g.met.S.Store.moves_on c.join.result c.args.store.now c.show_open.new.store c.join.new.store c.args.client.now c.join.new.client c.args.client.now.session.peer
    (joining c.args.peer c.args.capabilities c.args.client.now go_on) go_on c.show_open.ensures (c.join.ensures go_on)
