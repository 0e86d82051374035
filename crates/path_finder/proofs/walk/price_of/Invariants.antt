use Rattle.std.proofs.Common.{◌≤◌, ◌*◌, ◌^◌, take}
use Rattle.path_finder.specs.Walks.{Leads}
use Rattle.path_finder.proofs.walk.price_of.Given as goal

abbrev pub invariant-loop-number : goal.invariant-loop-number
invariant-loop-number l = record {
  leads : Leads l.query l.links l.fn.ends.source (take l.number-index l.path) l.at l.paid;
  small : l.paid ≤ 2 ^ 24 * l.number-index;
}
