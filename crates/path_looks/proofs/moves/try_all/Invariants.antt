use Rattle.std.proofs.Common.{◌≡◌, length, take}
use Rattle.std.specs.Arc.{arc_value}
use Rattle.path_looks.specs.Moves.{IsClosed, Tried}
use Rattle.path_looks.proofs.moves.try_all.Given as goal

-- those before the next one were tried
abbrev pub invariant-loop-mover : goal.invariant-loop-mover
invariant-loop-mover l = record {
  whole : length l.table.items ≡ length (arc_value l.topology).links;
  closed : IsClosed l.closed l.table.items;
  tried : Tried (arc_value l.topology) l.closed l.fn.table.items (take l.mover-index l.movers) l.moves.items l.table.items;
}
