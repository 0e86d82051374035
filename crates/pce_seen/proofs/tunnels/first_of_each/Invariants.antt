use Rattle.std.proofs.Common.{◌≡◌, drop, fold}
use Rattle.pce_seen.specs.Tunnels.{first_of_each, with_first}
use Rattle.pce_seen.proofs.tunnels.first_of_each.Given as goal

-- what is kept so far and the remaining paths lead to what is kept of all
abbrev pub invariant-loop-path : goal.invariant-loop-path
invariant-loop-path l = fold with_first l.kept.items (drop l.path-index l.paths) ≡ first_of_each l.paths
