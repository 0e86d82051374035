use Rattle.std.proofs.Common.{◌≡◌, ◌+◌, ◌≤◌, drop, length}
use Rattle.pcep_session.specs.Turns.{recent}
use Rattle.pcep_session.proofs.arrivals.is_fifth.Given as goal

abbrev pub invariant-loop-moment : goal.invariant-loop-moment
invariant-loop-moment l =
    (l.count + length (recent l.now_ms (drop l.moment-index l.moments)) ≡ length (recent l.now_ms l.moments)) × (l.count ≤ l.moment-index)
