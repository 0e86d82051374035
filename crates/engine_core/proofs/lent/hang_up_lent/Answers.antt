use Rattle.engine_core.specs.Engine.{hung_up}
use Rattle.engine_core.proofs.Performing.{performs, serves_below, same_loan}
use Rattle.engine_core.proofs.lent.hang_up_lent.Goals as goal

pub returns-clause-same_loan : goal.returns-clause-same_loan
returns-clause-same_loan c = same_loan c.hang_up.result c.args.store.now c.hang_up.new.store c.args.client.now c.hang_up.new.client (hung_up c.args.peer c.args.client.now) c.hang_up.ensures.hung_up

pub returns-clause-hung_up : goal.returns-clause-hung_up
returns-clause-hung_up c =
    let plan = hung_up c.args.peer c.args.client.now in
    performs c.hang_up.result c.args.store.now.database.now c.hang_up.new.store.database.now c.args.client.now c.hang_up.new.client plan
    (serves_below c.hang_up.result c.args.store.now c.hang_up.new.store c.args.client.now c.hang_up.new.client plan c.hang_up.ensures.hung_up)
