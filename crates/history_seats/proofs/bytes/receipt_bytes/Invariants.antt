use Rattle.std.proofs.Common.{◌≡◌, ◌-◌, ◌^◌, min, take}
use Rattle.std.specs.List.{sum_by}
use Rattle.event_bytes.specs.Bytes.{bytes_of}
use Rattle.history_seats.proofs.bytes.receipt_bytes.Given as goal

abbrev pub invariant-loop-receipt : goal.invariant-loop-receipt
invariant-loop-receipt l = record { bytes : l.bytes ≡ min (sum_by (λ r. bytes_of r.event) (take l.receipt-index l.receipts)) (2 ^ 64 - 1) }
