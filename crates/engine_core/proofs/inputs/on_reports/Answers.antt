use Rattle.std.proofs.Common.{◌≡◌, ◌∷◌, refl, rules}
use Rattle.std.proofs.lemmas.Result.{err_from_is_err_and}
use Rattle.std.specs.Vec.Iter.{into_iter_items}
use Rattle.engine_core.specs.Engine.{on_reports}
use Rattle.engine_core.proofs.Carrying.{stays, carries_on, breaks_on}
use Rattle.engine_core.proofs.inputs.on_reports.Goals as goal

pub loop-report-init : goal.loop-report-init
loop-report-init g c = λ go_on.
    rw c.into_iter-report-iterator.ensures.into_iter_gives.0
    (stays g.S.Store.moves c.args.store.now c.args.client.now c.args.client.now (on_reports c.args.peer c.args.reports.items c.args.client.now go_on) (g.met.S.Store.moves_nowhere c.args.store.now) refl)

pub loop-report-preserved : goal.loop-report-preserved
loop-report-preserved g c = λ go_on.
    let e : into_iter_items c.loop-report.report-iterator ≡ c.in-Some.report ∷ into_iter_items c.next.new.self = search rules in
    carries_on g.S.Store.moves g.met.S.Store.moves_on c.args.store.now c.loop-report.store c.on_report.new.store c.args.client.now c.loop-report.client c.on_report.new.client
    (on_reports c.args.peer c.args.reports.items c.args.client.now go_on) (on_reports c.args.peer (into_iter_items c.loop-report.report-iterator) c.loop-report.client go_on) (on_reports c.args.peer (into_iter_items c.next.new.self) c.on_report.new.client go_on)
    (c.loop-report.invariant go_on) (rw e (c.in_ok-on_report.ensures (λ after. on_reports c.args.peer (into_iter_items c.next.new.self) after go_on)))

pub returns-in_err-on_report : goal.returns-in_err-on_report
returns-in_err-on_report g c = λ go_on.
    let p = err_from_is_err_and c.from_residual.result c.from_residual.ensures.1 in
    let e : into_iter_items c.loop-report.report-iterator ≡ c.in-Some.report ∷ into_iter_items c.next.new.self = search rules in
    rw (p.1, p.2)
    (breaks_on g.S.Store.moves g.S.Store.is_full g.met.S.Store.moves_on c.args.store.now c.loop-report.store c.on_report.new.store c.args.client.now c.loop-report.client c.on_report.new.client
    (on_reports c.args.peer c.args.reports.items c.args.client.now go_on) (on_reports c.args.peer (into_iter_items c.loop-report.report-iterator) c.loop-report.client go_on) c.in_err-on_report.field-0.0
    (c.loop-report.invariant go_on) (rw e (c.in_err-on_report.ensures (λ after. on_reports c.args.peer (into_iter_items c.next.new.self) after go_on))))
