use Rattle.std.proofs.Common.{pos, arith}
use Rattle.std.proofs.lemmas.List.FromFn.{fill_by_all}
use Rattle.path_looks.specs.Moves.{left_beside}
use Rattle.path_looks.proofs.moves.row_beside.Goals as goal

pub returns : goal.returns
returns c = fill_by_all (left_beside c.args.mover.now c.args.link c.args.left.now) c.loop-priority.row 8 (pos 0) c.loop-priority.invariant.long (λ p less. c.loop-priority.invariant.done p (omega (arith, less)))
