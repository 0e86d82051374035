use Rattle.engine_core.proofs.Cases.{other_message}
use Rattle.engine_core.proofs.inputs.take_message.Goals as goal

pub returns : goal.returns
returns g c = λ go_on. other_message g.S.Store.moves c.args.store.now c.args.client.now c.args.peer c.args.message go_on c.in_default.not-Report c.in_default.not-Request c.in_default.not-Error (g.met.S.Store.moves_nowhere c.args.store.now)
