use Rattle.std.proofs.Common.{option_copied, option_map, ap, sym, ◌∙◌}
use Rattle.te_base.specs.declared.network.Owner.{Owner}
use Rattle.te_base.specs.Owners.{owner_of}
use Rattle.te_base.proofs.Entries.{owner_found}
use Rattle.te_base.proofs.owners.OwnerTable.node.Goals as goal

pub returns-in-Some : goal.returns-in-Some
returns-in-Some c =
    ap (option_map (λ (o : Owner). o.node)) (sym (ap option_copied c.in-Some.is) ∙ c.get.ensures.value)
    ∙ owner_found c.args.address _ c.self.invariant ∙ ap (λ os. owner_of os c.args.address) c.self.view_is

pub returns-in-None : goal.returns-in-None
returns-in-None c =
    ap (option_map (λ (o : Owner). o.node)) (sym (ap option_copied c.in-None.is) ∙ c.get.ensures.value)
    ∙ owner_found c.args.address _ c.self.invariant ∙ ap (λ os. owner_of os c.args.address) c.self.view_is
