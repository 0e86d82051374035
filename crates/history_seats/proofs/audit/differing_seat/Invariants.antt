use Rattle.std.specs.Prelude.{take}
use Rattle.history_seats.specs.Audits.{AllAgree}
use Rattle.history_seats.proofs.audit.differing_seat.Given as goal

abbrev pub invariant-loop-seat : goal.invariant-loop-seat
invariant-loop-seat g l = AllAgree l.database (take l.seat-index l.seats)
