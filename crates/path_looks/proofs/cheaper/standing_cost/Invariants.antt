use Rattle.std.proofs.Common.{◌≡◌, drop, fold}
use Rattle.path_looks.specs.Cheaper.{known_cost, lesser, standing_cost}
use Rattle.path_looks.proofs.cheaper.standing_cost.Given as goal

-- what was found so far and the remaining paths lead to the least cost of all
abbrev pub invariant-loop-path : goal.invariant-loop-path
invariant-loop-path l = fold (λ best x. lesser best (known_cost l.minimise l.links x)) l.best (drop l.path-index l.paths) ≡ standing_cost l.minimise l.links l.paths
