use Rattle.std.proofs.Common.{◌≡◌, length}
use Rattle.pcep_messages.specs.Objects.{found_in}
use Rattle.pcep_messages.proofs.Finding.{behind}
use Rattle.pcep_messages.proofs.objects.objects_in.Given as goal

-- the objects so far and those of the rest are those of all bytes
abbrev pub invariant-loop-front : goal.invariant-loop-front
invariant-loop-front l = behind l.objects.items (found_in l.rest) ≡ found_in l.bytes

abbrev pub decreases-loop-front : goal.decreases-loop-front
decreases-loop-front l = length l.rest
