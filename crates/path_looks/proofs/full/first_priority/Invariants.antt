use Rattle.std.proofs.Common.{◌≡◌, ◌≤◌, ◌<◌, ℕ, false}
use Rattle.path_looks.specs.Paths.{is_full_at}
use Rattle.path_looks.proofs.full.first_priority.Given as goal

-- the link is full at none of the priorities so far
abbrev pub invariant-loop-priority : goal.invariant-loop-priority
invariant-loop-priority l = (p : ℕ) → l.hold ≤ p → p < l.priority → is_full_at l.snapshot.unreserved l.wanted l.link p ≡ false
