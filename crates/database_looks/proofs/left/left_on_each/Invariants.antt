use Rattle.std.proofs.Common.{◌≡◌, map}
use Rattle.std.specs.List.{range_with_len}
use Rattle.te_snapshot.specs.Left.{left_on}
use Rattle.database_looks.proofs.left.left_on_each.Given as goal

abbrev pub invariant-loop-link : goal.invariant-loop-link
invariant-loop-link l = record {
  done : l.table.items ≡ map (left_on l.database.state.te.links l.database.state.base.paths) (range_with_len 0 l.link);
}
