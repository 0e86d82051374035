use Rattle.std.proofs.Common.{length}
use Rattle.pcep_messages.specs.Objects.{found_in}
use Rattle.pcep_messages.proofs.Parting.{Continues}
use Rattle.pcep_messages.proofs.parts.parts_in.Given as goal

abbrev pub invariant-loop-front : goal.invariant-loop-front
invariant-loop-front l = Continues l.parts (found_in l.rest) (found_in l.bytes)

abbrev pub decreases-loop-front : goal.decreases-loop-front
decreases-loop-front l = length l.rest
