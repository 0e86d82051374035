use Rattle.std.proofs.Common.{◌≡◌, ◌≤◌, ◌<◌, ℕ, true}
use Rattle.te_snapshot.specs.Room.{has_room_at}
use Rattle.path_finder.proofs.filter.has_room.Given as goal

abbrev pub invariant-loop-priority : goal.invariant-loop-priority
invariant-loop-priority l = (p : ℕ) → l.hold ≤ p → p < l.priority → has_room_at l.query.unreserved.now l.query.own.now l.query.constraints.now.bandwidth l.link p ≡ true
