use Rattle.std.proofs.Common.{rules}
use Rattle.shared_pce.specs.Turns.{Received}
use Rattle.shared_pce.proofs.shared.Shared.commit_and_take.Goals as goal

pub returns-clause-received : goal.returns-clause-received
returns-clause-received g c =
    let received : Received g.B.StepNumbers.text c.args.seat.now c.args.commit c.roll_and_step.new.seat c.note_step.result = search rules in
    (c.roll_and_step.new.seat, received, c.take_next-next.ensures)
