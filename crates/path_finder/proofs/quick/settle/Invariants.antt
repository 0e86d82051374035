use Rattle.std.proofs.Common.{◌≤◌, ◌^◌}
use Rattle.path_finder.proofs.quick.settle.Given as goal

abbrev pub invariant-loop-arc : goal.invariant-loop-arc
invariant-loop-arc l = l.met.cost ≤ 2 ^ 31
