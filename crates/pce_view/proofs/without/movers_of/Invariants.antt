use Rattle.std.proofs.Common.{◌≡◌, ◌++◌, drop}
use Rattle.pce_view.specs.Without.{movers_of}
use Rattle.pce_view.proofs.without.movers_of.Given as goal

-- those so far and those of what is left are all
abbrev pub invariant-loop-place : goal.invariant-loop-place
invariant-loop-place l = l.movers.items ++ movers_of (drop l.place l.lsps) (drop l.place l.owns) ≡ movers_of l.lsps l.owns
