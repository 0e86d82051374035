use Rattle.pcep_session.specs.Ends.{most_turns}
use Rattle.engine_core.specs.Engine.{turns, draining}
use Rattle.engine_core.proofs.Carrying.{serves_on}
use Rattle.engine_core.proofs.serving.serve_open.Goals as goal

pub returns : goal.returns
returns g c = λ go_on.
    serves_on g.S.Store.moves g.S.Store.is_full g.met.S.Store.moves_on c.drain.result c.args.store.now c.take_turns.new.store c.drain.new.store c.args.client.now c.take_turns.new.client c.drain.new.client
    (turns (most_turns c.args.client.now.session) c.args.peer c.args.client.now (λ after. draining c.args.peer after go_on)) (draining c.args.peer c.take_turns.new.client go_on) go_on
    (c.in_ok-take_turns.ensures (λ after. draining c.args.peer after go_on)) (c.drain.ensures go_on)
