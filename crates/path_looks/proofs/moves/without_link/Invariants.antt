use Rattle.std.proofs.Common.{◌≡◌, length, map}
use Rattle.std.specs.List.{range_with_len}
use Rattle.path_looks.specs.Moves.{open_row}
use Rattle.path_looks.proofs.moves.without_link.Given as goal

abbrev pub invariant-loop-link : goal.invariant-loop-link
invariant-loop-link l = record {
  long : length l.rows.items ≡ l.link;
  done : l.rows.items ≡ map (open_row l.closed l.table) (range_with_len 0 l.link);
}
