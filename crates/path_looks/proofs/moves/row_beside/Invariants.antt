use Rattle.std.proofs.Common.{◌≡◌, ◌<◌, pos, ℕ, length, slice_index_or}
use Rattle.path_looks.specs.Moves.{left_beside}
use Rattle.path_looks.proofs.moves.row_beside.Given as goal

abbrev pub invariant-loop-priority : goal.invariant-loop-priority
invariant-loop-priority l = record {
  long : length l.row ≡ 8;
  done : (p : ℕ) → p < l.priority → slice_index_or l.row p (pos 0) ≡ left_beside l.mover l.link l.left p;
}
