use Rattle.std.proofs.Common.{◌∙◌, ap, find}
use Rattle.step_core.specs.Names.{NameRoom, is_of_grant}
use Rattle.step_core.proofs.NameEntries.{found}
use Rattle.step_core.proofs.name_table.NameTable.of_grant.Goals as goal

pub returns : goal.returns
returns c =
    c.get.ensures.value ∙ found (record { peer = c.args.peer; srp = c.args.srp }) _ c.self.invariant
    ∙ ap (λ (t : NameRoom). find (is_of_grant c.args.peer c.args.srp) t.names) c.self.view_is
