use Rattle.std.proofs.Common.{All, List, sym, subst}
use Rattle.std.proofs.lemmas.Result.{IfOk-weaker}
use Rattle.history_core.specs.Histories.{Content}
use Rattle.server_counts.specs.declared.residuals.ResidualRow.{ResidualRow}
use Rattle.step_core.specs.declared.event.Event.{Event}
use Rattle.history_seats.specs.Past.{database_at}
use Rattle.shared_pce.specs.Residuals.{IsBefore}
use Rattle.shared_pce.proofs.stepped.step_seen.Goals as goal

pub returns-clause-left : goal.returns-clause-left
returns-clause-left g c =
    let of_event : All (IsBefore c.database.result.now c.args.event c.args.priority) c.see_before-before.result.items =
    subst (λ (e : Event). All (IsBefore c.database.result.now e c.args.priority) c.see_before-before.result.items) c.event.ensures c.see_before-before.ensures.before in
    let before : All (IsBefore (database_at g.B.StepNumbers.text c.args.held.now) c.args.event c.args.priority) c.see_before-before.result.items =
    subst (λ (d : Content). All (IsBefore d c.args.event c.args.priority) c.see_before-before.result.items) c.database.ensures of_event in
    let passed : All (IsBefore (database_at g.B.StepNumbers.text c.args.held.now) c.args.event c.args.priority) c.deref.result.now = subst (λ (rows : List ResidualRow). All (IsBefore (database_at g.B.StepNumbers.text c.args.held.now) c.args.event c.args.priority) rows) (sym c.deref.ensures.value) before in
    IfOk-weaker c.step_beside.result _ _ (λ s left. left c.args.priority c.requires passed) c.step_beside.ensures.left
