use Rattle.std.proofs.Common.{◌≡◌, ◌∷◌, refl, rules}
use Rattle.std.proofs.lemmas.Result.{err_from_is_err_and}
use Rattle.std.specs.Vec.Iter.{into_iter_items}
use Rattle.engine_core.specs.Engine.{on_refusals}
use Rattle.engine_core.proofs.Carrying.{stays, carries_on, breaks_on}
use Rattle.engine_core.proofs.inputs.on_refusals.Goals as goal

pub loop-srp-init : goal.loop-srp-init
loop-srp-init g c = λ go_on.
    rw c.into_iter-srp-iterator.ensures.into_iter_gives.0
    (stays g.S.Store.moves c.args.store.now c.args.client.now c.args.client.now (on_refusals c.args.peer c.args.srps.items c.args.client.now go_on) (g.met.S.Store.moves_nowhere c.args.store.now) refl)

pub loop-srp-preserved : goal.loop-srp-preserved
loop-srp-preserved g c = λ go_on.
    let e : into_iter_items c.loop-srp.srp-iterator ≡ c.in-Some.srp ∷ into_iter_items c.next.new.self = search rules in
    carries_on g.S.Store.moves g.met.S.Store.moves_on c.args.store.now c.loop-srp.store c.on_refusal.new.store c.args.client.now c.args.client.now c.args.client.now
    (on_refusals c.args.peer c.args.srps.items c.args.client.now go_on) (on_refusals c.args.peer (into_iter_items c.loop-srp.srp-iterator) c.args.client.now go_on) (on_refusals c.args.peer (into_iter_items c.next.new.self) c.args.client.now go_on)
    (c.loop-srp.invariant go_on) (rw e (c.in_ok-on_refusal.ensures (λ after. on_refusals c.args.peer (into_iter_items c.next.new.self) after go_on)))

pub returns-in_err-on_refusal : goal.returns-in_err-on_refusal
returns-in_err-on_refusal g c = λ go_on.
    let p = err_from_is_err_and c.from_residual.result c.from_residual.ensures.1 in
    let e : into_iter_items c.loop-srp.srp-iterator ≡ c.in-Some.srp ∷ into_iter_items c.next.new.self = search rules in
    rw (p.1, p.2)
    (breaks_on g.S.Store.moves g.S.Store.is_full g.met.S.Store.moves_on c.args.store.now c.loop-srp.store c.on_refusal.new.store c.args.client.now c.args.client.now c.args.client.now
    (on_refusals c.args.peer c.args.srps.items c.args.client.now go_on) (on_refusals c.args.peer (into_iter_items c.loop-srp.srp-iterator) c.args.client.now go_on) c.in_err-on_refusal.field-0.0
    (c.loop-srp.invariant go_on) (rw e (c.in_err-on_refusal.ensures (λ after. on_refusals c.args.peer (into_iter_items c.next.new.self) after go_on))))
