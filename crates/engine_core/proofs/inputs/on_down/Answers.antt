use Rattle.std.proofs.Common.{rules}
use Rattle.std.proofs.lemmas.Result.{err_from_is_err_and}
use Rattle.engine_core.specs.Calls.{newest_reply}
use Rattle.engine_core.proofs.Carrying.{not_down, gone_down, not_joined}
use Rattle.engine_core.proofs.inputs.on_down.Goals as goal

pub returns-in_err-hand_in-clause-went_down : goal.returns-in_err-hand_in-clause-went_down
returns-in_err-hand_in-clause-went_down g c = λ go_on.
    let p = err_from_is_err_and c.from_residual.result c.from_residual.ensures.1 in
    rw (p.1, p.2) (not_down g.S.Store.moves g.S.Store.is_full c.args.store.now c.hand_in.new.store c.args.client.now c.args.peer go_on c.in_err-hand_in.field-0.0 c.if-client.true c.in_err-hand_in.ensures.unchanged (search rules))

pub returns-in_ok-hand_in-clause-went_down : goal.returns-in_ok-hand_in-clause-went_down
returns-in_ok-hand_in-clause-went_down g c = λ go_on.
    gone_down g.S.Store.moves c.args.store.now c.hand_in.new.store c.args.client.now c.args.peer (newest_reply (g.S.Store.calls c.hand_in.new.store)) go_on c.if-client.true c.in_ok-hand_in.ensures.submitted

pub returns-else-client-clause-went_down : goal.returns-else-client-clause-went_down
returns-else-client-clause-went_down g c = λ go_on. not_joined g.S.Store.moves c.args.store.now c.args.client.now c.args.peer go_on c.if-client.false (g.met.S.Store.moves_nowhere c.args.store.now)
