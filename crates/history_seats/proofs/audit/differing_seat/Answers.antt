use Rattle.history_seats.specs.Audits.{SeatAgrees}
use Rattle.history_seats.proofs.Places.{more, whole}
use Rattle.history_seats.proofs.audit.differing_seat.Goals as goal

pub loop-seat-preserved : goal.loop-seat-preserved
loop-seat-preserved g c = more (SeatAgrees c.args.database.now) c.args.seats.now c.loop-seat.seat-index c.seat-item.result c.loop-seat-test.true c.seat-item.is c.loop-seat.invariant c.in-None.ensures.none

pub returns-clause-none : goal.returns-clause-none
returns-clause-none g c = whole (SeatAgrees c.args.database.now) c.args.seats.now c.loop-seat.seat-index c.loop-seat-test.false c.loop-seat.invariant
