use Rattle.std.proofs.Common.{◌≡◌, ◌≤◌, length}
use Rattle.pcep_messages.specs.Objects.{found_by}
use Rattle.pcep_messages.proofs.objects.next_object.Given as goal

-- the objects of the rest are those of all bytes
abbrev pub invariant-loop-rest : goal.invariant-loop-rest
invariant-loop-rest l = (found_by l.checks_p l.rest ≡ found_by l.checks_p l.bytes) × (length l.rest ≤ length l.bytes)

abbrev pub decreases-loop-rest : goal.decreases-loop-rest
decreases-loop-rest l = length l.rest
