use Rattle.std.proofs.Common.{refl, rules}
use Rattle.std.proofs.lemmas.Result.{err_from_is_err_and}
use Rattle.step_core.specs.declared.event.Event.TheVariants.{Refused}
use Rattle.engine_core.specs.Calls.{newest_reply}
use Rattle.engine_core.proofs.Carrying.{stays, not_submitted, carries_on, submitted, passes}
use Rattle.engine_core.proofs.inputs.on_refusal.Goals as goal

pub returns-in_err-hand_in : goal.returns-in_err-hand_in
returns-in_err-hand_in g c = λ go_on.
    let p = err_from_is_err_and c.from_residual.result c.from_residual.ensures.1 in
    rw (p.1, p.2) (not_submitted g.S.Store.moves g.S.Store.is_full c.args.store.now c.hand_in.new.store c.args.client.now (Refused c.args.peer c.args.srp) (λ reply. go_on c.args.client.now) c.in_err-hand_in.field-0.0 c.in_err-hand_in.ensures.unchanged (search rules))

pub returns : goal.returns
returns g c = λ go_on.
    let client = c.args.client.now in
    let store = c.hand_in.new.store in
    carries_on g.S.Store.moves g.met.S.Store.moves_on c.args.store.now store store client client client _ _ (go_on client)
    (submitted g.S.Store.moves c.args.store.now store client client client (Refused c.args.peer c.args.srp) (newest_reply (g.S.Store.calls store)) (λ reply. go_on client) c.in_ok-hand_in.ensures.submitted refl)
    (passes g.S.Store.moves store store client client client (go_on client) (go_on client) (stays g.S.Store.moves store client client (go_on client) (g.met.S.Store.moves_nowhere store) refl))
