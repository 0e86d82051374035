-- The faults of an audit: their numbers and texts.
use Rattle.std.specs.Prelude.{ℕ, List, codes}
use Rattle.history_seats.specs.declared.fault.AuditFault.{AuditFault}
use Rattle.history_seats.specs.declared.fault.AuditFault.TheVariants.{SeatMissing, StepsDiffer, GrantsDiffer, ReceiptDiffers, PlaceTwice, PlacesFall, OutOfMemory}

abbrev pub audit_fault_number : AuditFault → ℕ
audit_fault_number SeatMissing = 1
audit_fault_number StepsDiffer = 2
audit_fault_number GrantsDiffer = 3
audit_fault_number (ReceiptDiffers place) = 4
audit_fault_number PlaceTwice = 5
audit_fault_number PlacesFall = 6
audit_fault_number OutOfMemory = 7

abbrev pub audit_fault_text : AuditFault → List ℕ
audit_fault_text SeatMissing = codes "audit fault 1"
audit_fault_text StepsDiffer = codes "audit fault 2"
audit_fault_text GrantsDiffer = codes "audit fault 3"
audit_fault_text (ReceiptDiffers place) = codes "audit fault 4"
audit_fault_text PlaceTwice = codes "audit fault 5"
audit_fault_text PlacesFall = codes "audit fault 6"
audit_fault_text OutOfMemory = codes "out of memory"
