use Rattle.std.proofs.Common.{◌≡◌, true, rules}
use Rattle.step_core.specs.Standing.{may_have_name}
use Rattle.step_core.proofs.Standing.{absent-name}
use Rattle.step_core.proofs.state.over.add_names.Goals as goal

pub add_name-requires : goal.add_name-requires
add_name-requires c =
    let n = c.loop-name.network in
    let may : may_have_name n.base.paths n.names c.in-Some.name ≡ true = search rules in
    record { absent = absent-name n.base.paths n.names c.in-Some.name may }
