use Rattle.std.proofs.Common.{◌≤◌, ◌^◌}
use Rattle.path_finder.specs.Sides.{IsOver}
use Rattle.path_finder.proofs.quick.meet.Given as goal

abbrev pub invariant-loop : goal.invariant-loop
invariant-loop l = record {
  source : IsOver l.query.topology.now.nodes l.source;
  destination : IsOver l.query.topology.now.nodes l.destination;
  met : l.met.cost ≤ 2 ^ 31;
}
