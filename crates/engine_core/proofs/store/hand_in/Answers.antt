use Rattle.engine_core.proofs.Carrying.{newest_submitted}
use Rattle.engine_core.proofs.store.hand_in.Goals as goal

pub returns-clause-submitted : goal.returns-clause-submitted
returns-clause-submitted g c =
    newest_submitted c.submit.result g.S.Store.calls g.S.Store.moves g.met.S.Store.moves_add c.args.store.now c.submit.new.self c.args.event c.submit.ensures.submitted
