use Rattle.std.proofs.Common.{◌≡◌, drop, fold}
use Rattle.path_looks.specs.Tightest.{room_on, tighter, tightest}
use Rattle.path_looks.proofs.link_room.tightest.Given as goal

-- what was found so far and the remaining links lead to the tightest of all
abbrev pub invariant-loop-link : goal.invariant-loop-link
invariant-loop-link l = fold (λ best k. tighter best (room_on l.snapshot.unreserved l.wanted k)) l.best (drop l.link-index l.links) ≡ tightest l.snapshot.unreserved l.wanted l.links
