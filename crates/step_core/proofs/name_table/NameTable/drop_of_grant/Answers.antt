use Rattle.std.proofs.Common.{◌∙◌, ap, sym, subst}
use Rattle.std.specs.Map.{values_of}
use Rattle.lsp_base.specs.Lsps.{without_first}
use Rattle.step_core.specs.Names.{AreKeyed, NameRoom, is_of_grant}
use Rattle.step_core.proofs.NameEntries.{keyed_taken, taken}
use Rattle.step_core.proofs.name_table.NameTable.drop_of_grant.Goals as goal

pub invariant_of-self : goal.invariant_of-self
invariant_of-self c = subst AreKeyed (sym c.swap_remove.ensures.entries) (keyed_taken _ _ c.self.invariant)

pub returns : goal.returns
returns c =
    ap values_of c.swap_remove.ensures.entries ∙ taken (record { peer = c.args.peer; srp = c.args.srp }) _ c.self.invariant
    ∙ ap (λ (t : NameRoom). without_first (is_of_grant c.args.peer c.args.srp) t.names) c.self.view_is
