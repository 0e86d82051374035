use Rattle.std.proofs.Common.{◌≡◌, map, take}
use Rattle.te_snapshot.specs.Leaving.{turned}
use Rattle.te_snapshot.proofs.leaving.all_turned.Given as goal

abbrev pub invariant-loop-link : goal.invariant-loop-link
invariant-loop-link l = l.all.items ≡ map turned (take l.link-index l.links)
