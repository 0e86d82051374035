use Rattle.std.proofs.Common.{◌≡◌, map, take}
use Rattle.server_base.specs.Routers.{seen_router}
use Rattle.server_base.proofs.routers.seen_routers.Given as goal

abbrev pub invariant-loop-peer : goal.invariant-loop-peer
invariant-loop-peer l = l.seen.items ≡ map seen_router (take l.peer-index l.peers)
