use Rattle.std.proofs.Common.{◌≡◌, map, take}
use Rattle.te_base.specs.Values.{values_of}
use Rattle.te_base.proofs.reload.all_values.Given as goal

abbrev pub invariant-loop-link : goal.invariant-loop-link
invariant-loop-link l = l.values.items ≡ map values_of (take l.link-index l.links)
