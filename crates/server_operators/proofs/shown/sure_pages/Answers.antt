use Rattle.std.proofs.Common.{[]}
use Rattle.std.proofs.lemmas.Result.{IfOk-weaker}
use Rattle.seated_store.specs.SeatingLaws.{moves_on}
use Rattle.server_operators.specs.Shows.{bounded, form_of}
use Rattle.server_operators.proofs.Showing.{shown_alike, shown_behind}
use Rattle.server_operators.proofs.shown.sure_pages.Goals as goal

pub returns-in-Err-clause-shown : goal.returns-in-Err-clause-shown
returns-in-Err-clause-shown g c = IfOk-weaker c.show_pages.result _ _
    (λ pages h. shown_behind g.B.StepNumbers.text (form_of c.args.line.now.is_json) c.args.info.now c.args.store.now.seat.now.seen c.show_pages-shown.new.store.seat.now.seen (bounded c.args.line.now.ask) pages.items c.show_pages.new.store.seat.now.seen c.show_pages-shown.ensures.same.received.begins
    (shown_alike g.B.StepNumbers.text (form_of c.args.line.now.is_json) c.form_of-in-Err.result c.args.info.now c.show_pages-shown.new.store.seat.now.seen (bounded c.args.line.now.ask) c.bounded-in-Err.result pages.items c.show_pages.new.store.seat.now.seen c.form_of-in-Err.ensures c.bounded-in-Err.ensures h))
    c.show_pages.ensures.shown

pub returns-in-Err-clause-same : goal.returns-in-Err-clause-same
returns-in-Err-clause-same g c =
    moves_on g.B.StepNumbers.text c.args.store.now.seat c.show_pages-shown.new.store.seat c.show_pages.new.store.seat c.args.store.now.calls.items c.show_pages-shown.new.store.calls.items c.show_pages.new.store.calls.items [] [] c.show_pages-shown.ensures.same c.show_pages.ensures.same
