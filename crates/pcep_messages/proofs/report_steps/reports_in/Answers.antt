use Rattle.std.proofs.Common.{◌≡◌, Some, rules, sym, ◌∙◌}
use Rattle.std.proofs.lemmas.Result.{err_from_is_err_and}
use Rattle.pcep_objects.specs.Objects.{body_of}
use Rattle.pcep_objects.specs.declared.fault.BodyFault.TheVariants as body
use Rattle.pcep_messages.specs.Reports.{report_body}
use Rattle.pcep_messages.specs.ReportSteps.{State, after, finished, finished_at}
use Rattle.pcep_messages.proofs.Running.{goes_on, takes_none, stops, ends, is_fault, gives_after}
use Rattle.pcep_messages.proofs.Finding.{own_stops}
use Rattle.pcep_messages.proofs.Taking.{starts_at}
use Rattle.pcep_messages.proofs.Fronting.{empty_after}
use Rattle.pcep_messages.proofs.report_steps.reports_in.Goals as goal

pub loop-front-init : goal.loop-front-init
loop-front-init c = (rw (c.in_ok-reports.ensures.items, c.no_objects-item.ensures) (starts_at c.args.body.now), c.no_objects-item.ensures)

pub loop-front-preserved : goal.loop-front-preserved
loop-front-preserved c =
    let front = c.in-Object.front in
    let s : State = record { reports = c.loop-front.reports.items; item = c.loop-front.item; place = c.loop-front.place } in
    let t : State = record { reports = c.take_front.new.reports.items; item = c.take_front.new.item; place = c.in_ok-place-in-Ok.place } in
    let took = rw c.in_ok-place-in-Ok.was at c.in-Ok.ensures.taken in (
      goes_on after finished s t _ _ (body_of front.kind front.p front.body.now) (report_body c.args.body.now) c.in-Object.ensures.0 took c.loop-front.invariant.0,
      empty_after (body_of front.kind front.p front.body.now) s t took c.loop-front.invariant.1,
    )

pub returns-in_err-place-in-Ok : goal.returns-in_err-place-in-Ok
returns-in_err-place-in-Ok c =
    let front = c.in-Object.front in
    let s : State = record { reports = c.loop-front.reports.items; item = c.loop-front.item; place = c.loop-front.place } in
    let failed = rw c.in_err-place-in-Ok.was at c.in-Ok.ensures.taken in
    let p = err_from_is_err_and c.from_residual-in_err-place-in-Ok.result c.from_residual-in_err-place-in-Ok.ensures.1 in
    rw (p.1, p.2) (takes_none after finished s _ _ (body_of front.kind front.p front.body.now) c.in_err-place-in-Ok.field-0.0 (report_body c.args.body.now) c.in-Object.ensures.0 failed c.loop-front.invariant.0)

pub returns-in-Err : goal.returns-in-Err
returns-in-Err c =
    let front = c.in-Object.front in
    let s : State = record { reports = c.loop-front.reports.items; item = c.loop-front.item; place = c.loop-front.place } in
    let other : c.in-Err.own ≡ body.OutOfMemory → ⊥ = search rules in
    let own = own_stops (body_of front.kind front.p front.body.now) c.in-Err.own _ c.in-Err.ensures.own_fault other in
    let e : finished_at c.loop-front.place c.loop-front.reports.items c.take_front.new.item (Some c.into.result) ≡ report_body c.args.body.now =
    rw (c.in-Err.ensures.same_item, c.into.ensures) (stops after finished s _ _ (report_body c.args.body.now) (c.in-Object.ensures.0 ∙ own) c.loop-front.invariant.0) in
    is_fault c.fault_at.result (report_body c.args.body.now) (sym e ∙ c.fault_at.ensures c.loop-front.reports.items)

pub returns-in-Bad : goal.returns-in-Bad
returns-in-Bad c =
    let s : State = record { reports = c.loop-front.reports.items; item = c.loop-front.item; place = c.loop-front.place } in
    let e = stops after finished s _ c.in-Bad.fault (report_body c.args.body.now) c.in-Bad.ensures c.loop-front.invariant.0 in
    is_fault c.fault_at-in-Bad.result (report_body c.args.body.now) (sym e ∙ c.fault_at-in-Bad.ensures c.loop-front.reports.items)

pub returns-in-End : goal.returns-in-End
returns-in-End c =
    let s : State = record { reports = c.loop-front.reports.items; item = c.loop-front.item; place = c.loop-front.place } in
    gives_after (λ v. v.items) c.finish.result _ _ (ends after finished s _ (report_body c.args.body.now) c.in-End.ensures c.loop-front.invariant.0) c.finish.ensures
