use Rattle.std.proofs.Common.{◌<◌, length, arith}
use Rattle.std.proofs.lemmas.List.{get_or_default}
use Rattle.std.proofs.lemmas.List.Edits.{map_over_more}
use Rattle.server_rules.specs.Placings.{marked}
use Rattle.server_rules.proofs.places.mark_all.Goals as goal

pub loop-connection-preserved : goal.loop-connection-preserved
loop-connection-preserved c =
    let inside : c.loop-connection.connection-index < length c.args.taken.now.items = omega arith in
    let there : c.loop-connection.connection-index < length c.loop-connection.connection-items = omega arith in
    rw c.marked.ensures (map_over_more (marked c.args.slot c.args.is_up) c.args.taken.now.items c.loop-connection.connection-items c.loop-connection.connection-index _ inside c.loop-connection.invariant (get_or_default _ _ _ _ there))
