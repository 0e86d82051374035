use Rattle.std.proofs.Common.{◌≤◌, length}
use Rattle.path_finder.proofs.quick.follow.Given as goal

abbrev pub invariant-loop : goal.invariant-loop
invariant-loop l = length l.path.items ≤ l.hops
