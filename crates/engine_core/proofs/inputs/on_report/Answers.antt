use Rattle.std.proofs.Common.{rules, sym}
use Rattle.std.proofs.lemmas.Result.{err_from_is_err_and}
use Rattle.engine_core.specs.Calls.{newest_reply}
use Rattle.engine_core.specs.Engine.{event_of, after_report}
use Rattle.engine_core.proofs.Carrying.{not_submitted, answered, reports_join_none}
use Rattle.engine_core.proofs.inputs.on_report.Goals as goal

pub returns-in_err-hand_in : goal.returns-in_err-hand_in
returns-in_err-hand_in g c = λ go_on.
    let p = err_from_is_err_and c.from_residual.result c.from_residual.ensures.1 in
    rw (p.1, p.2) (not_submitted g.S.Store.moves g.S.Store.is_full c.args.store.now c.hand_in.new.store c.args.client.now (event_of c.args.peer c.args.report) (λ reply. after_report c.args.peer c.args.report.plsp c.args.report.srp reply c.args.client.now go_on)
    c.in_err-hand_in.field-0.0 c.in_err-hand_in.ensures.unchanged (search rules))

pub returns : goal.returns
returns g c = λ go_on.
    let store = c.hand_in.new.store in
    answered g.S.Store.moves g.S.Store.is_full g.met.S.Store.moves_on c.after_report.result c.args.store.now store c.after_report.new.store c.args.client.now c.after_report.new.client (event_of c.args.peer c.args.report) (newest_reply (g.S.Store.calls store))
    (λ reply. after_report c.args.peer c.args.report.plsp c.args.report.srp reply c.args.client.now go_on) go_on
    (rw (sym c.event_of.ensures) c.in_ok-hand_in.ensures.submitted) (sym (reports_join_none c.args.client.now.joined c.args.peer c.args.report (newest_reply (g.S.Store.calls store)))) (c.after_report.ensures go_on)
