use Rattle.shared_pce.specs.Rolls.{is_due}
use Rattle.server_journal.proofs.Following.{all_given}
use Rattle.server_journal.proofs.steps.roll.Goals as goal

pub returns-in_ok-write_rest-in-Some-clause-all_written : goal.returns-in_ok-write_rest-in-Some-clause-all_written
returns-in_ok-write_rest-in-Some-clause-all_written g c =
    let rest = c.in_ok-write_rest-in-Some.ensures in
    λ _. all_given g.B.StepNumbers.text (is_due c.args.at) c.args.seat.now c.take_rolled_if.new.seat c.in_ok-rolled.field-0 c.in-Some.rolled c.args.progress.now.next c.write_rest.new.progress.next
    c.in-Some.is c.in_ok-rolled.ensures.rolled rest.first rest.within rest.next
