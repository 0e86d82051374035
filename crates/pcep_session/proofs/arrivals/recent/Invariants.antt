use Rattle.std.proofs.Common.{◌≡◌, ◌++◌, drop}
use Rattle.pcep_session.specs.Turns.{recent}
use Rattle.pcep_session.proofs.arrivals.recent.Given as goal

abbrev pub invariant-loop-moment : goal.invariant-loop-moment
invariant-loop-moment l = l.found.items ++ recent l.now_ms (drop l.moment-index l.moments) ≡ recent l.now_ms l.moments
