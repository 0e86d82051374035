use Rattle.pce_view.specs.Better.{Listed}
use Rattle.pce_view.proofs.better.each_better.Given as goal

abbrev pub invariant-loop-place : goal.invariant-loop-place
invariant-loop-place l = Listed l.seen l.place l.found.items
