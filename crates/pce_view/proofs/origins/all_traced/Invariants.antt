use Rattle.std.proofs.Common.{◌≡◌, map, take}
use Rattle.pce_view.specs.Origins.{traced}
use Rattle.pce_view.proofs.origins.all_traced.Given as goal

abbrev pub invariant-loop-path : goal.invariant-loop-path
invariant-loop-path l = l.seen.items ≡ map (traced l.first l.steps) (take l.path-index l.paths)
