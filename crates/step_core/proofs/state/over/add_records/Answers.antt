use Rattle.std.proofs.Common.{◌≡◌, true, rules}
use Rattle.step_core.specs.Standing.{may_have_record}
use Rattle.step_core.proofs.Standing.{absent-record}
use Rattle.step_core.proofs.state.over.add_records.Goals as goal

pub add_record-requires : goal.add_record-requires
add_record-requires c =
    let base = c.loop-known.network.base in
    let may : may_have_record base c.in-Some.known ≡ true = search rules in
    record { absent = absent-record base c.in-Some.known may }
