use Rattle.std.proofs.Common.{◌≡◌, ◌+◌, ◌*◌, ◌^◌, ◌≤◌, drop}
use Rattle.te_snapshot.specs.Admissible.{cost_of}
use Rattle.te_snapshot.proofs.route.cost_of.Given as goal

abbrev pub invariant-loop-number : goal.invariant-loop-number
invariant-loop-number l = record {
  rest : l.cost + cost_of l.minimise l.links (drop l.number-index l.path) ≡ cost_of l.minimise l.links l.path;
  small : l.cost ≤ 2 ^ 32 * l.number-index;
}
