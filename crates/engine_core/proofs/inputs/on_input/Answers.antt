use Rattle.engine_core.proofs.Cases.{handled}
use Rattle.engine_core.proofs.inputs.on_input.Goals as goal

pub returns-in-Handled : goal.returns-in-Handled
returns-in-Handled g c = λ go_on. handled g.S.Store.moves c.args.store.now c.args.client.now c.args.peer c.args.input go_on c.in-Handled.is (g.met.S.Store.moves_nowhere c.args.store.now)
