use Rattle.std.proofs.Common.{◌≡◌, ◌∙◌, List, take, sym, ap, subst}
use Rattle.server_rules.specs.declared.retry.RouterLsp.{RouterLsp}
use Rattle.server_rules.specs.Retries.{AreDue, dues_in}
use Rattle.server_rules.proofs.RetryDues.{are_due}
use Rattle.server_rules.proofs.retry_table.RetryTable.due.Goals as goal

pub returns-clause-due : goal.returns-clause-due
returns-clause-due c = λ past knows.
    let listed : c.truncate.new.self.items ≡ take c.args.room (dues_in c.args.self.now c.args.now_ms c.args.retry_ms) =
    c.truncate.ensures.items ∙ ap (take c.args.room) c.in_ok-due.ensures in
    subst (λ (due : List RouterLsp). AreDue past c.args.now_ms c.args.retry_ms c.args.room due) (sym listed)
    (are_due c.args.self.now past c.args.now_ms c.args.retry_ms c.args.room knows)
