use Rattle.std.proofs.Common.{◌≡◌, ◌++◌, take, false}
use Rattle.pcep_messages.specs.Spelling.{srp_object}
use Rattle.pcep_messages.proofs.ErrorObjects.{each_spelled}
use Rattle.pcep_messages.proofs.bodies.put_srps.Given as goal

abbrev pub invariant-loop-srp : goal.invariant-loop-srp
invariant-loop-srp l = l.out.items ≡ l.fn.out.items ++ each_spelled (srp_object false) (take l.srp-index l.srps)
