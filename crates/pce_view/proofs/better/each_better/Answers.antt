use Rattle.pce_view.specs.Better.Listed.{Begins}
use Rattle.pce_view.proofs.better.each_better.Goals as goal

pub loop-place-init : goal.loop-place-init
loop-place-init c = rw c.new-found.ensures.items Begins
