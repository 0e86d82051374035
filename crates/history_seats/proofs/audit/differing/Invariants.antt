use Rattle.std.specs.Prelude.{All, take}
use Rattle.history_seats.specs.Audits.{Agrees}
use Rattle.history_seats.proofs.audit.differing.Given as goal

abbrev pub invariant-loop-receipt : goal.invariant-loop-receipt
invariant-loop-receipt l = All (Agrees l.database) (take l.receipt-index l.receipts)
