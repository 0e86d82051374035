use Rattle.std.proofs.Common.{◌≡◌, true, rules}
use Rattle.step_core.specs.Standing.{may_have_path}
use Rattle.step_core.proofs.Standing.{few-paths}
use Rattle.step_core.proofs.state.over.add_paths.Goals as goal

pub add_path-requires : goal.add_path-requires
add_path-requires c =
    let base = c.loop-path.network.base in
    let may : may_have_path base c.in-Some.path ≡ true = search rules in
    record { few = few-paths base c.in-Some.path may }
