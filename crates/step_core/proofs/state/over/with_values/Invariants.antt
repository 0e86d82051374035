use Rattle.std.proofs.Common.{◌≡◌, take}
use Rattle.te_base.specs.Values.{with_all_values}
use Rattle.step_core.proofs.state.over.with_values.Given as goal

-- the links that the loop has passed have their values
abbrev pub invariant-loop-link : goal.invariant-loop-link
invariant-loop-link l = l.te ≡ with_all_values l.fn.te (take l.link l.values)
