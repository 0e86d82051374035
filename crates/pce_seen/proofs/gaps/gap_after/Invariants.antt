use Rattle.std.proofs.Common.{◌≡◌, drop}
use Rattle.pce_seen.specs.Gaps.{gap_after}
use Rattle.pce_seen.proofs.gaps.gap_after.Given as goal

-- the remaining route has the first gap of the whole route
abbrev pub invariant-loop-link : goal.invariant-loop-link
invariant-loop-link l = gap_after l.links l.end l.here l.node (drop l.link-index l.route) ≡ gap_after l.links l.end l.fn.from l.fn.start l.route
