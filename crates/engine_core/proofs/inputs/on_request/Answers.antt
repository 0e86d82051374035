use Rattle.std.proofs.Common.{rules, refl, sym}
use Rattle.std.proofs.lemmas.Result.{err_from_is_err_and}
use Rattle.step_core.specs.declared.event.Event.TheVariants.{Ask}
use Rattle.engine_core.specs.Calls.{newest_reply}
use Rattle.engine_core.specs.Engine.{after_request}
use Rattle.engine_core.specs.Requests.{purpose_of}
use Rattle.engine_core.proofs.Carrying.{not_submitted, answered}
use Rattle.engine_core.proofs.inputs.on_request.Goals as goal

pub returns-in_err-hand_in : goal.returns-in_err-hand_in
returns-in_err-hand_in g c = λ go_on.
    let p = err_from_is_err_and c.from_residual.result c.from_residual.ensures.1 in
    rw (p.1, p.2) (not_submitted g.S.Store.moves g.S.Store.is_full c.args.store.now c.hand_in.new.store c.args.client.now (Ask c.args.peer (purpose_of c.args.request)) (λ reply. after_request c.args.request.request reply c.args.client.now go_on)
    c.in_err-hand_in.field-0.0 c.in_err-hand_in.ensures.unchanged (search rules))

pub returns : goal.returns
returns g c = λ go_on.
    let store = c.hand_in.new.store in
    answered g.S.Store.moves g.S.Store.is_full g.met.S.Store.moves_on c.after_request.result c.args.store.now store store c.args.client.now c.after_request.new.client (Ask c.args.peer (purpose_of c.args.request)) (newest_reply (g.S.Store.calls store))
    (λ reply. after_request c.args.request.request reply c.args.client.now go_on) go_on
    (rw (sym c.purpose_of-purpose.ensures) c.in_ok-hand_in.ensures.submitted) refl (c.after_request.ensures go_on)
