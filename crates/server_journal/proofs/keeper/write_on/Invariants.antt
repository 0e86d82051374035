use mathlib.Core.List.{IsPrefix}
use Rattle.server_journal.specs.Writes.{GoesOn}
use Rattle.server_journal.proofs.keeper.write_on.Given as goal

abbrev pub invariant-loop : goal.invariant-loop
invariant-loop g l = record {
  begins : IsPrefix l.fn.seat.seen l.seat.seen;
  goes_on : GoesOn g.B.StepNumbers.text l.seat.seen l.fn.progress.next l.progress.next (g.W.Write.contents l.fn.writer) (g.W.Write.contents l.writer);
}
