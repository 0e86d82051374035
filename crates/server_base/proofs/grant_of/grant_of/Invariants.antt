use Rattle.std.proofs.Common.{◌≡◌, drop}
use Rattle.server_base.specs.Routers.{srp_in}
use Rattle.server_base.proofs.grant_of.grant_of.Given as goal

abbrev pub invariant-loop-path : goal.invariant-loop-path
invariant-loop-path l = srp_in (drop l.path-index l.paths) l.peer l.plsp ≡ srp_in l.paths l.peer l.plsp
