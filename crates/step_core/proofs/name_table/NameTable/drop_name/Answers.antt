use Rattle.std.proofs.Common.{◌∙◌, sym}
use Rattle.step_core.specs.Names.{is_of_grant}
use Rattle.step_core.specs.States.{is_grant_of_name}
use Rattle.step_core.specs.declared.names.AwaitedName.{AwaitedName}
use Rattle.step_core.proofs.NameEntries.{without_agreeing, without_none}
use Rattle.step_core.proofs.name_table.NameTable.drop_name.Goals as goal

pub returns-in-Some : goal.returns-in-Some
returns-in-Some c =
    c.drop_of_grant.ensures
    ∙ sym (without_agreeing (λ (a : AwaitedName). is_grant_of_name a c.args.gone.now) (is_of_grant c.args.gone.now.peer c.in-Some.srp) c.in-Some.ensures.grant c.args.self.now.names)

pub returns-in_default : goal.returns-in_default
returns-in_default c = sym (without_none (λ (a : AwaitedName). is_grant_of_name a c.args.gone.now) c.in_default.ensures.none c.args.self.now.names)
