use Rattle.std.proofs.Common.{◌≡◌, ◌==◌, ◌&&◌, Bool, true, false, length, sym, ap, ◌∙◌}
use Rattle.std.proofs.lemmas.Bool.{and_from, eq-eqb}
use Rattle.step_core.specs.Standing.{may_have_lsps}
use Rattle.step_core.proofs.Standing.{and_false}
use Rattle.step_core.proofs.state.over.network_over.Goals as goal

pub returns-then-branch-clause-decided : goal.returns-then-branch-clause-decided
returns-then-branch-clause-decided c =
    let long : length c.args.values.now ≡ length c.args.te.links = cc in
    sym (and_from _ _ (eq-eqb _ _ long) (sym c.in_ok-fill.ensures.decided ∙ c.if-branch.true))

pub returns-else-branch-clause-decided : goal.returns-else-branch-clause-decided
returns-else-branch-clause-decided c =
    let same = length c.args.values.now == length c.args.te.links in
    sym (and_false same) ∙ ap (λ (b : Bool). same && b) (sym c.if-branch.false ∙ c.in_ok-fill.ensures.decided)
