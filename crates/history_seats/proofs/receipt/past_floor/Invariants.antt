use Rattle.std.specs.Prelude.{◌≡◌, ◌≤◌, ◌+◌, drop}
use Rattle.history_seats.specs.Receipts.{are_past, floor_after}
use Rattle.history_seats.proofs.receipt.past_floor.Given as goal

abbrev pub invariant-loop-receipt : goal.invariant-loop-receipt
invariant-loop-receipt l = record {
  past : are_past l.floor l.rolled l.receipts ≡ are_past l.last l.rolled (drop l.receipt-index l.receipts);
  floor : floor_after l.floor l.receipts ≡ floor_after l.last (drop l.receipt-index l.receipts);
  counted : l.floor + l.receipt-index ≤ l.last;
}
