use Rattle.std.proofs.Common.{◌≡◌, drop, map, slice_get}
use Rattle.commit_core.specs.Routes.{leads}
use Rattle.commit_core.proofs.route.leads.Given as goal

abbrev pub invariant-loop-number : goal.invariant-loop-number
invariant-loop-number l = leads l.node l.to (map (slice_get l.te.links) (drop l.number-index l.path)) ≡ leads l.from l.to (map (slice_get l.te.links) l.path)
