use Rattle.std.proofs.Common.{rules}
use Rattle.path_looks.specs.Moves.Tried.{Begins}
use Rattle.path_looks.proofs.moves.try_all.Goals as goal

pub loop-mover-init : goal.loop-mover-init
loop-mover-init c = record { whole = search rules; closed = search rules; tried = rw c.new-moves.ensures.items Begins }
