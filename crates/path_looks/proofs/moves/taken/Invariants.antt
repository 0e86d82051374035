use Rattle.std.proofs.Common.{◌≡◌, length, map}
use Rattle.std.specs.List.{range_with_len}
use Rattle.path_looks.specs.Moves.{taken_row}
use Rattle.path_looks.proofs.moves.taken.Given as goal

abbrev pub invariant-loop-link : goal.invariant-loop-link
invariant-loop-link l = record {
  long : length l.rows.items ≡ l.link;
  done : l.rows.items ≡ map (taken_row l.mover l.links l.table) (range_with_len 0 l.link);
}
