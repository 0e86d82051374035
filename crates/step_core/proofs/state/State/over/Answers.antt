use Rattle.std.proofs.Common.{◌≡◌, ◌∙◌, true, true≢false, sym, ap, subst}
use Rattle.std.specs.Prelude.{Option, IfSome, is_some}
use Rattle.step_core.specs.Bases.{state_over}
use Rattle.step_core.specs.Consistent.{IsConsistent}
use Rattle.step_core.specs.Standing.{stands}
use Rattle.step_core.specs.States.{State}
use Rattle.step_core.proofs.Standing.{may-stands, stands-may}
use Rattle.step_core.proofs.state.State.over.Goals as goal

pub invariant_of-result : goal.invariant_of-result
invariant_of-result c =
    let te = c.args.te in
    let base = c.args.base in
    let is : stands te base ≡ true = sym c.in_ok-tables.ensures.decided ∙ ap is_some c.in-Some.is in
    let made = subst (λ (o : Option State). IfSome o (λ t. t ≡ state_over te base)) c.in-Some.is c.in_ok-tables.ensures.made in
    (subst IsConsistent (sym made) (stands-may te base is).consistent, λ rise. absurd (true≢false (sym rise)))

pub returns-in-Some-clause-stands : goal.returns-in-Some-clause-stands
returns-in-Some-clause-stands c = stands-may c.args.te c.args.base (sym c.in_ok-tables.ensures.decided ∙ ap is_some c.in-Some.is)

pub returns-in-None-clause-refused : goal.returns-in-None-clause-refused
returns-in-None-clause-refused c = may-stands c.args.te c.args.base (sym c.in_ok-tables.ensures.decided ∙ ap is_some c.in-None.is)
