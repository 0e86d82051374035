use Rattle.std.proofs.Common.{◌≡◌, length}
use Rattle.std.specs.Prelude.{option_copied, IfSome}
use Rattle.pcep_objects.specs.Tlvs.{fitting_in}
use Rattle.pcep_objects.proofs.Walking.{or_found}
use Rattle.pcep_objects.proofs.lsp_errors.fitting_in.Given as goal

-- what was found, or is found in the rest, is what all bytes have
abbrev pub invariant-loop-rest : goal.invariant-loop-rest
invariant-loop-rest l =
    (or_found (option_copied l.found) (fitting_in l.number l.size l.rest) ≡ fitting_in l.number l.size l.bytes)
    × IfSome l.found (λ value. length value.now ≡ l.size)

abbrev pub decreases-loop-rest : goal.decreases-loop-rest
decreases-loop-rest l = length l.rest
