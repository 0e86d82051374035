use Rattle.std.proofs.Common.{◌≡◌, map, take}
use Rattle.pce_seen.specs.Gaps.{gap_in}
use Rattle.pce_seen.proofs.places.gaps_in.Given as goal

abbrev pub invariant-loop-path : goal.invariant-loop-path
invariant-loop-path l = l.gaps.items ≡ map (gap_in l.te l.constraints) (take l.path-index l.paths)
