use Rattle.std.proofs.Common.{◌≡◌, true, length}
use Rattle.pcep_messages.specs.Requests.{requests_in_body}
use Rattle.pcep_messages.specs.RequestSteps.{after, finished}
use Rattle.pcep_messages.proofs.Running.{rest_gives}
use Rattle.pcep_messages.proofs.requests.requests_in.Given as goal

-- what was read, with the rest, gives the requests of all
abbrev pub invariant-loop-front : goal.invariant-loop-front
invariant-loop-front l = rest_gives after finished true (record { requests = l.requests.items; asked = l.asked }) l.rest ≡ requests_in_body l.body

abbrev pub decreases-loop-front : goal.decreases-loop-front
decreases-loop-front l = length l.rest
