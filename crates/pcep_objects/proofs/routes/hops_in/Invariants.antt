use Rattle.std.proofs.Common.{◌≡◌, length}
use Rattle.pcep_objects.specs.Steps.{pieces}
use Rattle.pcep_objects.specs.Routes.{subobject_size, hop_of}
use Rattle.pcep_objects.proofs.Cutting.{with_front}
use Rattle.pcep_objects.proofs.routes.hops_in.Given as goal

-- the hops that were read and those of the rest are those of all bytes
abbrev pub invariant-loop-rest : goal.invariant-loop-rest
invariant-loop-rest l = with_front l.hops.items (pieces subobject_size (hop_of l.explicit) l.rest) ≡ pieces subobject_size (hop_of l.explicit) l.bytes

abbrev pub decreases-loop-rest : goal.decreases-loop-rest
decreases-loop-rest l = length l.rest
