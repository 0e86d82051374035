use Rattle.std.proofs.Common.{◌≡◌, ◌++◌, drop}
use Rattle.std.specs.List.{filter_map}
use Rattle.server_base.specs.Routers.{srp_of_peer}
use Rattle.server_base.proofs.grant_of.srps_of_peer.Given as goal

abbrev pub invariant-loop-path : goal.invariant-loop-path
invariant-loop-path l = l.srps.items ++ filter_map (srp_of_peer l.peer) (drop l.path-index l.paths) ≡ filter_map (srp_of_peer l.peer) l.paths
