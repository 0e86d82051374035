use Rattle.std.proofs.Common.{rules}
use Rattle.std.proofs.lemmas.Result.{err_from_is_err_and}
use Rattle.step_core.specs.declared.event.Event.TheVariants.{Up}
use Rattle.engine_core.specs.Engine.{after_up}
use Rattle.engine_core.proofs.Carrying.{not_submitted, changed}
use Rattle.engine_core.proofs.inputs.join.Goals as goal

pub returns-in_err-hand_in : goal.returns-in_err-hand_in
returns-in_err-hand_in g c = λ go_on.
    let p = err_from_is_err_and c.from_residual.result c.from_residual.ensures.1 in
    rw (p.1, p.2) (not_submitted g.S.Store.moves g.S.Store.is_full c.args.store.now c.hand_in.new.store c.args.client.now (Up c.args.peer c.args.capabilities) (λ reply. go_on (after_up reply c.args.client.now)) c.in_err-hand_in.field-0.0 c.in_err-hand_in.ensures.unchanged (search rules))

pub returns : goal.returns
returns g c = λ go_on.
    changed g.S.Store.moves g.S.Store.is_full c.after_up.result c.args.store.now c.hand_in.new.store c.args.client.now c.after_up.new.client (Up c.args.peer c.args.capabilities) c.reply.result.now after_up go_on
    (rw c.reply.ensures c.in_ok-hand_in.ensures.submitted) c.after_up.ensures.answered c.after_up.ensures.unchanged c.after_up.ensures.only_memory c.after_up.ensures.joined
