use Rattle.engine_core.proofs.Carrying.{newest_is}
use Rattle.engine_core.proofs.store.reply.Goals as goal

pub returns : goal.returns
returns g c = newest_is (g.S.Store.calls c.args.store.now) c.last_reply.result.now c.requires c.last_reply.ensures
