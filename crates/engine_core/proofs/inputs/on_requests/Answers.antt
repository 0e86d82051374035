use Rattle.std.proofs.Common.{◌≡◌, ◌∷◌, refl, rules}
use Rattle.std.proofs.lemmas.Result.{err_from_is_err_and}
use Rattle.std.specs.Vec.Iter.{into_iter_items}
use Rattle.engine_core.specs.Engine.{on_requests}
use Rattle.engine_core.proofs.Carrying.{stays, carries_on, breaks_on}
use Rattle.engine_core.proofs.inputs.on_requests.Goals as goal

pub loop-request-init : goal.loop-request-init
loop-request-init g c = λ go_on.
    rw c.into_iter-request-iterator.ensures.into_iter_gives.0
    (stays g.S.Store.moves c.args.store.now c.args.client.now c.args.client.now (on_requests c.args.peer c.args.requests.items c.args.client.now go_on) (g.met.S.Store.moves_nowhere c.args.store.now) refl)

pub loop-request-preserved : goal.loop-request-preserved
loop-request-preserved g c = λ go_on.
    let e : into_iter_items c.loop-request.request-iterator ≡ c.in-Some.request ∷ into_iter_items c.next.new.self = search rules in
    carries_on g.S.Store.moves g.met.S.Store.moves_on c.args.store.now c.loop-request.store c.on_request.new.store c.args.client.now c.loop-request.client c.on_request.new.client
    (on_requests c.args.peer c.args.requests.items c.args.client.now go_on) (on_requests c.args.peer (into_iter_items c.loop-request.request-iterator) c.loop-request.client go_on) (on_requests c.args.peer (into_iter_items c.next.new.self) c.on_request.new.client go_on)
    (c.loop-request.invariant go_on) (rw e (c.in_ok-on_request.ensures (λ after. on_requests c.args.peer (into_iter_items c.next.new.self) after go_on)))

pub returns-in_err-on_request : goal.returns-in_err-on_request
returns-in_err-on_request g c = λ go_on.
    let p = err_from_is_err_and c.from_residual.result c.from_residual.ensures.1 in
    let e : into_iter_items c.loop-request.request-iterator ≡ c.in-Some.request ∷ into_iter_items c.next.new.self = search rules in
    rw (p.1, p.2)
    (breaks_on g.S.Store.moves g.S.Store.is_full g.met.S.Store.moves_on c.args.store.now c.loop-request.store c.on_request.new.store c.args.client.now c.loop-request.client c.on_request.new.client
    (on_requests c.args.peer c.args.requests.items c.args.client.now go_on) (on_requests c.args.peer (into_iter_items c.loop-request.request-iterator) c.loop-request.client go_on) c.in_err-on_request.field-0.0
    (c.loop-request.invariant go_on) (rw e (c.in_err-on_request.ensures (λ after. on_requests c.args.peer (into_iter_items c.next.new.self) after go_on))))
