use Rattle.std.proofs.lemmas.Result.{IfOk-weaker, on_err_weaker}
use Rattle.shared_pce.proofs.Seeing.{received_on, sees_on}
use Rattle.shared_pce.proofs.shared.Shared.submit_again.Goals as goal

pub returns-clause-received : goal.returns-clause-received
returns-clause-received g c =
    IfOk-weaker c.submit_once.result _ _ (λ reply h. received_on g.B.StepNumbers.text c.args.seat.now c.spare.new.seat c.submit_once.new.seat c.args.event reply c.spare.ensures h) c.submit_once.ensures.received

pub returns-clause-unchanged_on_fault : goal.returns-clause-unchanged_on_fault
returns-clause-unchanged_on_fault g c =
    on_err_weaker c.submit_once.result (λ h. sees_on c.args.seat.now c.spare.new.seat c.submit_once.new.seat c.spare.ensures h) c.submit_once.ensures.unchanged_on_fault
