use Rattle.std.specs.List.{IsFirstBest}
use Rattle.server_rules.specs.Places.{outweighs}
use Rattle.server_rules.proofs.entrance.first_to_end.Given as goal

abbrev pub invariant-loop-at : goal.invariant-loop-at
invariant-loop-at l = IsFirstBest (outweighs l.taken) l.taken l.at l.first
