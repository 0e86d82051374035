use Rattle.shared_pce.proofs.Residuals.{all_before}
use Rattle.shared_pce.proofs.left.see_before.Goals as goal

pub returns-in-Some-clause-before : goal.returns-in-Some-clause-before
returns-in-Some-clause-before c = all_before c.args.database.now c.args.event.now c.args.priority c.in-Some.rows.items c.in-Some.ensures.rows
