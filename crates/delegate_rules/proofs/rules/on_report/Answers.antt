use Rattle.std.proofs.Common.{sym, ◌∙◌}
use Rattle.delegate_rules.proofs.Limits.{IsWithinLimit-report}
use Rattle.delegate_rules.proofs.rules.on_report.Goals as goal

pub returns-clause-few : goal.returns-clause-few
returns-clause-few c =
    IsWithinLimit-report c.args.base.now.content c.args.te.now c.args.peer c.args.report.now c.in_ok-effect.effect c.in_ok-effect.ensures (sym c.adds_too_many.ensures ∙ c.if-adds_too_many.false)
