use Rattle.std.proofs.Common.{◌≡◌, drop}
use Rattle.pcep_objects.specs.Spelling.{hops_fit}
use Rattle.pcep_objects.proofs.sizes.hops_fit.Given as goal

abbrev pub invariant-loop-hop : goal.invariant-loop-hop
invariant-loop-hop l = hops_fit (drop l.hop-index l.hops) ≡ hops_fit l.hops
