use Rattle.std.proofs.Common.{◌≡◌, length}
use Rattle.pcep_objects.specs.Tlvs.{skipped_tlvs}
use Rattle.pcep_objects.proofs.tlvs.skip_tlvs.Given as goal

abbrev pub invariant-loop-rest : goal.invariant-loop-rest
invariant-loop-rest l = skipped_tlvs l.rest ≡ skipped_tlvs l.bytes

abbrev pub decreases-loop-rest : goal.decreases-loop-rest
decreases-loop-rest l = length l.rest
