use Rattle.std.proofs.Common.{◌≡◌, ◌++◌, drop}
use Rattle.pce_view.specs.States.{shown_states}
use Rattle.pce_view.proofs.shown_states.add_each_state.Given as goal

abbrev pub invariant-loop-place : goal.invariant-loop-place
invariant-loop-place l = l.states.items ++ shown_states l.heard l.gaps l.place (drop l.place l.lsps) ≡ l.fn.states.items ++ shown_states l.heard l.gaps 0 l.lsps
