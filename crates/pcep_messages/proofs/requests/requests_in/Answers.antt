use Rattle.std.proofs.Common.{◌≡◌, Some, rules, sym, ◌∙◌}
use Rattle.std.proofs.lemmas.Result.{err_from_is_err_and}
use Rattle.pcep_objects.specs.Objects.{body_of}
use Rattle.pcep_objects.specs.declared.fault.BodyFault.TheVariants as body
use Rattle.pcep_messages.specs.Requests.{requests_in_body}
use Rattle.pcep_messages.specs.RequestSteps.{State, after, finished, finished_at}
use Rattle.pcep_messages.proofs.Running.{goes_on, takes_none, stops, ends, is_fault, gives_after}
use Rattle.pcep_messages.proofs.Finding.{own_stops}
use Rattle.pcep_messages.proofs.Asking.{starts_at}
use Rattle.pcep_messages.proofs.requests.requests_in.Goals as goal

pub loop-front-init : goal.loop-front-init
loop-front-init c = rw c.in_ok-requests.ensures.items (starts_at c.args.body.now)

pub loop-front-preserved : goal.loop-front-preserved
loop-front-preserved c =
    let front = c.in-Object.front in
    let s : State = record { requests = c.loop-front.requests.items; asked = c.loop-front.asked } in
    let t : State = record { requests = c.take_front.new.requests.items; asked = c.take_front.new.asked } in
    let took = rw c.in_ok-step-in-Ok.was at c.in-Ok.ensures.taken in
    goes_on after finished s t _ _ (body_of front.kind front.p front.body.now) (requests_in_body c.args.body.now) c.in-Object.ensures.0 took c.loop-front.invariant

pub returns-in_err-step-in-Ok : goal.returns-in_err-step-in-Ok
returns-in_err-step-in-Ok c =
    let front = c.in-Object.front in
    let s : State = record { requests = c.loop-front.requests.items; asked = c.loop-front.asked } in
    let failed = rw c.in_err-step-in-Ok.was at c.in-Ok.ensures.taken in
    let p = err_from_is_err_and c.from_residual-in_err-step-in-Ok.result c.from_residual-in_err-step-in-Ok.ensures.1 in
    rw (p.1, p.2) (takes_none after finished s _ _ (body_of front.kind front.p front.body.now) c.in_err-step-in-Ok.field-0.0 (requests_in_body c.args.body.now) c.in-Object.ensures.0 failed c.loop-front.invariant)

pub returns-in-Err : goal.returns-in-Err
returns-in-Err c =
    let front = c.in-Object.front in
    let s : State = record { requests = c.loop-front.requests.items; asked = c.loop-front.asked } in
    let other : c.in-Err.own ≡ body.OutOfMemory → ⊥ = search rules in
    let own = own_stops (body_of front.kind front.p front.body.now) c.in-Err.own _ c.in-Err.ensures.own_fault other in
    let all = stops after finished s _ _ (requests_in_body c.args.body.now) (c.in-Object.ensures.0 ∙ own) c.loop-front.invariant in
    let e : finished_at c.take_front.new.asked c.loop-front.requests.items (Some c.into.result) ≡ requests_in_body c.args.body.now = rw (c.in-Err.ensures.same_asked, c.into.ensures) all in
    is_fault c.cut_off.result (requests_in_body c.args.body.now) (sym e ∙ c.cut_off.ensures c.loop-front.requests.items)

pub returns-in-Bad : goal.returns-in-Bad
returns-in-Bad c =
    let s : State = record { requests = c.loop-front.requests.items; asked = c.loop-front.asked } in
    let e = stops after finished s _ c.in-Bad.fault (requests_in_body c.args.body.now) c.in-Bad.ensures c.loop-front.invariant in
    is_fault c.cut_off-in-Bad.result (requests_in_body c.args.body.now) (sym e ∙ c.cut_off-in-Bad.ensures c.loop-front.requests.items)

pub returns-in-End : goal.returns-in-End
returns-in-End c =
    let s : State = record { requests = c.loop-front.requests.items; asked = c.loop-front.asked } in
    gives_after (λ v. v.items) c.finish.result _ _ (ends after finished s _ (requests_in_body c.args.body.now) c.in-End.ensures c.loop-front.invariant) c.finish.ensures
