use Rattle.std.proofs.Common.{◌≡◌, ◌++◌, take, drop, true}
use Rattle.pcep_objects.specs.Spelling.{hops_written, hops_fit}
use Rattle.pcep_objects.proofs.putting.put_hops.Given as goal

abbrev pub invariant-loop-hop : goal.invariant-loop-hop
invariant-loop-hop l =
    (l.out.items ≡ l.fn.out.items ++ hops_written (take l.hop-index l.hops)) × (hops_fit (drop l.hop-index l.hops) ≡ true)
