use Rattle.std.proofs.Common.{◌≡◌, take}
use Rattle.pce_seen.specs.Lsps.{held_on}
use Rattle.pce_seen.proofs.taking.held_on.Given as goal

abbrev pub invariant-loop-path : goal.invariant-loop-path
invariant-loop-path l = l.held.items ≡ held_on (take l.path-index l.paths) l.link
