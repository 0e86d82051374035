use Rattle.engine_core.specs.Engine.{served}
use Rattle.engine_core.proofs.Performing.{performs_or_ends, ends_below, same_loan_ended}
use Rattle.engine_core.proofs.lent.serve_lent.Goals as goal

pub returns-clause-same_loan : goal.returns-clause-same_loan
returns-clause-same_loan c = same_loan_ended c.serve.result c.args.store.now c.serve.new.store c.args.client.now c.serve.new.client (served c.args.peer c.args.piece.now c.args.now_ms c.args.client.now) c.serve.ensures.served

pub returns-clause-served : goal.returns-clause-served
returns-clause-served c = ends_below c.serve.result c.args.store.now c.serve.new.store c.args.client.now c.serve.new.client (served c.args.peer c.args.piece.now c.args.now_ms c.args.client.now) c.serve.ensures.served

pub returns-clause-performed : goal.returns-clause-performed
returns-clause-performed c =
    let plan = served c.args.peer c.args.piece.now c.args.now_ms c.args.client.now in
    performs_or_ends c.serve.result c.args.store.now.database.now c.serve.new.store.database.now c.args.client.now c.serve.new.client plan
    (ends_below c.serve.result c.args.store.now c.serve.new.store c.args.client.now c.serve.new.client plan c.serve.ensures.served)
