use Rattle.std.proofs.Common.{◌≡◌, ◌^◌, ◌-◌, min, length, take, drop}
use Rattle.pcep_objects.specs.Spelling.{hops_fit, hops_written}
use Rattle.pcep_objects.proofs.sizes.fitting_size.Given as goal

abbrev pub invariant-loop-hop : goal.invariant-loop-hop
invariant-loop-hop l =
    (l.size ≡ min (length (hops_written (take l.hop-index l.hops))) (2 ^ 64 - 1)) × (hops_fit (drop l.hop-index l.hops) ≡ hops_fit l.hops)
