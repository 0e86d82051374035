use Rattle.std.proofs.Common.{Option, [], subst}
use Rattle.asks.specs.declared.ask.Ask.{Ask}
use Rattle.seated_store.specs.SeatingLaws.{moves_nowhere, moves_on}
use Rattle.server_operators.specs.Shows.{AddsPage}
use Rattle.server_operators.proofs.Showing.{shown_last, shown_more}
use Rattle.server_operators.proofs.shown.show_pages.Goals as goal

pub loop-page-init : goal.loop-page-init
loop-page-init g c = record {
  shown = rw c.new-text.ensures.items (λ rest last h. h);
  same = moves_nowhere g.B.StepNumbers.text c.args.store.now.seat c.args.store.now.calls.items;
}

pub returns-in-None-clause-shown : goal.returns-in-None-clause-shown
returns-in-None-clause-shown g c =
    shown_last g.B.StepNumbers.text c.args.form c.args.info.now c.args.store.now.seat.now.seen c.args.first c.loop-page.store.seat.now.seen c.add_page.new.store.seat.now.seen c.loop-page.ask c.loop-page.text.items c.add_page.new.text.items c.loop-page.invariant.shown
    (subst (λ (next : Option Ask). AddsPage g.B.StepNumbers.text c.args.form c.args.info.now c.loop-page.ask next c.loop-page.store.seat.now.seen c.loop-page.text.items c.add_page.new.store.seat.now.seen c.add_page.new.text.items) c.in-None.is c.in_ok-next.ensures.page)

pub loop-page-preserved : goal.loop-page-preserved
loop-page-preserved g c = record {
  shown = shown_more g.B.StepNumbers.text c.args.form c.args.info.now c.args.store.now.seat.now.seen c.args.first c.loop-page.store.seat.now.seen c.add_page.new.store.seat.now.seen c.loop-page.ask c.in-Some.next c.loop-page.text.items c.add_page.new.text.items c.loop-page.invariant.shown
      (subst (λ (next : Option Ask). AddsPage g.B.StepNumbers.text c.args.form c.args.info.now c.loop-page.ask next c.loop-page.store.seat.now.seen c.loop-page.text.items c.add_page.new.store.seat.now.seen c.add_page.new.text.items) c.in-Some.is c.in_ok-next.ensures.page);
  same = moves_on g.B.StepNumbers.text c.args.store.now.seat c.loop-page.store.seat c.add_page.new.store.seat c.args.store.now.calls.items c.loop-page.store.calls.items c.add_page.new.store.calls.items [] [] c.loop-page.invariant.same c.add_page.ensures.same;
}
