use Rattle.std.proofs.Common.{◌≡◌, ◌++◌, take, false}
use Rattle.pcep_messages.specs.Spelling.{rp_object}
use Rattle.pcep_messages.proofs.ErrorObjects.{each_spelled}
use Rattle.pcep_messages.proofs.bodies.put_requests.Given as goal

abbrev pub invariant-loop-request : goal.invariant-loop-request
invariant-loop-request l = l.out.items ≡ l.fn.out.items ++ each_spelled (rp_object false) (take l.request-index l.requests)
