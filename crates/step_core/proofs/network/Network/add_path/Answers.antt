use Rattle.std.proofs.Common.{◌≡◌, ap, ◌∙◌, subst}
use Rattle.std.specs.Prelude.{OnOk}
use Rattle.lsp_base.specs.declared.effect.Effect.{Effect}
use Rattle.step_core.specs.Networks.{Network, carried_out}
use Rattle.step_core.proofs.Standing.{added-path}
use Rattle.step_core.proofs.network.Network.add_path.Goals as goal

pub returns-clause-added : goal.returns-clause-added
returns-clause-added c =
    let x = c.args.path in
    let n = c.args.self.now in
    let is = ap (λ (e : Effect). carried_out n x.peer e) c.in_ok-effect.ensures ∙ added-path n x in
    subst (λ (after : Network). OnOk c.carry_out.result (c.carry_out.new.self ≡ after)) is c.carry_out.ensures.changed
