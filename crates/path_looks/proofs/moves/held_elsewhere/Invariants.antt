use Rattle.std.proofs.Common.{◌≡◌, take}
use Rattle.path_looks.specs.Moves.{held_elsewhere}
use Rattle.path_looks.proofs.moves.held_elsewhere.Given as goal

abbrev pub invariant-loop-share : goal.invariant-loop-share
invariant-loop-share l = l.held.items ≡ held_elsewhere l.closed (take l.share-index l.own)
