use Rattle.std.proofs.Common.{◌≤◌, List, length, refl, sym, ap, ◌∙◌, subst}
use Rattle.te_base.proofs.Values.{length-values_in}
use Rattle.lsp_base.specs.Lsps.{Lsps}
use Rattle.lsp_base.specs.declared.path.Path.{Path}
use Rattle.step_core.specs.Bases.{known_in}
use Rattle.step_core.specs.Consistent.{IsConsistent}
use Rattle.step_core.specs.States.{State}
use Rattle.step_core.proofs.Reloading.{known_again}
use Rattle.step_core.proofs.state.State.what_stands_may_stand.Goals as goal

pub returns : goal.returns
returns c =
    let s = c.args.self.now in
    let lsps = c.lsps.ensures ∙ ap (λ (t : State). t.base) c.self.view_is in
    let paths = c.paths-few.ensures.paths ∙ ap (λ (l : Lsps). l.paths) lsps in
    record {
      values = length-values_in s.te;
      few = subst (λ (xs : List Path). length xs ≤ 16384) paths c.paths-few.ensures.few;
      consistent = subst IsConsistent (sym (known_again s (known_in s) refl)) (subst IsConsistent c.self.view_is c.self.invariant.0);
    }
