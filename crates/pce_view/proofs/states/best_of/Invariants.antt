use Rattle.std.proofs.Common.{◌≡◌, drop, fold}
use Rattle.pce_view.specs.States.{best_of, with_path}
use Rattle.pce_view.proofs.states.best_of.Given as goal

-- the best so far and the paths that are left lead to the best of all
abbrev pub invariant-loop-path : goal.invariant-loop-path
invariant-loop-path l = fold (with_path l.words) l.best (drop l.path-index l.paths) ≡ best_of l.words l.paths
