use Rattle.std.proofs.Common.{◌<◌, length, arith}
use Rattle.std.proofs.lemmas.List.{get_or_default}
use Rattle.std.proofs.lemmas.List.Edits.{map_over_more}
use Rattle.server_rules.specs.Settled.{noted}
use Rattle.server_rules.proofs.settling.note_all.Goals as goal

pub loop-router-preserved : goal.loop-router-preserved
loop-router-preserved c =
    let inside : c.loop-router.router-index < length c.args.routers.now.items = omega arith in
    let there : c.loop-router.router-index < length c.loop-router.router-items = omega arith in
    rw c.noted.ensures (map_over_more (noted c.args.address c.args.is_in_sync) c.args.routers.now.items c.loop-router.router-items c.loop-router.router-index _ inside c.loop-router.invariant (get_or_default _ _ _ _ there))
