use Rattle.std.proofs.Common.{◌≡◌, ◌^◌, ◌-◌, min, length, take}
use Rattle.pcep_objects.specs.Spelling.{hops_written}
use Rattle.pcep_objects.proofs.sizes.hops_size.Given as goal

abbrev pub invariant-loop-hop : goal.invariant-loop-hop
invariant-loop-hop l = l.size ≡ min (length (hops_written (take l.hop-index l.hops))) (2 ^ 64 - 1)
