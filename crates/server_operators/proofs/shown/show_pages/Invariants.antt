use Rattle.std.proofs.Common.{[]}
use Rattle.seated_store.specs.Seating.{SeatedMoves}
use Rattle.server_operators.proofs.Showing.{Awaits}
use Rattle.server_operators.proofs.shown.show_pages.Given as goal

-- after the pages so far comes what the next ask is shown, and no call was made
abbrev pub invariant-loop-page : goal.invariant-loop-page
invariant-loop-page g l = record {
  shown : Awaits g.B.StepNumbers.text l.form l.info l.fn.store.seat.now.seen l.fn.first l.store.seat.now.seen l.ask l.text.items;
  same : SeatedMoves g.B.StepNumbers.text l.fn.store.seat l.fn.store.calls.items [] l.store.seat l.store.calls.items;
}
