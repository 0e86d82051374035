use Rattle.std.proofs.Common.{◌≡◌, length, true}
use Rattle.std.specs.Prelude.{option_copied, IfSome}
use Rattle.pcep_objects.specs.Tlvs.{value_in, may_have}
use Rattle.pcep_objects.proofs.Walking.{or_found}
use Rattle.pcep_objects.proofs.tlvs.value_in.Given as goal

-- what was found, or is found in the rest, is what all bytes have
abbrev pub invariant-loop-rest : goal.invariant-loop-rest
invariant-loop-rest l =
    (or_found (option_copied l.found) (value_in l.number l.size l.rest) ≡ value_in l.number l.size l.bytes)
    × IfSome l.found (λ value. may_have l.size (length value.now) ≡ true)

abbrev pub decreases-loop-rest : goal.decreases-loop-rest
decreases-loop-rest l = length l.rest
