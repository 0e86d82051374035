use Rattle.std.proofs.Common.{◌≡◌, ◌++◌, map, take, drop}
use Rattle.server_rules.specs.Settled.{noted}
use Rattle.server_rules.proofs.settling.note_all.Given as goal

abbrev pub invariant-loop-router : goal.invariant-loop-router
invariant-loop-router l =
    l.router-items ≡ map (noted l.address l.is_in_sync) (take l.router-index l.fn.routers.items) ++ drop l.router-index l.fn.routers.items
