use Rattle.std.proofs.Common.{◌≡◌, map, take}
use Rattle.pce_view.specs.History.{known_step}
use Rattle.pce_view.proofs.history.known_steps.Given as goal

abbrev pub invariant-loop-step : goal.invariant-loop-step
invariant-loop-step l = l.seen.items ≡ map known_step (take l.step-index l.steps)
