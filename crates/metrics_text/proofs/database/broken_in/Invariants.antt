use Rattle.std.proofs.Common.{◌≡◌, drop, fold}
use Rattle.metrics_text.specs.Samples.{with_broken}
use Rattle.metrics_text.proofs.database.broken_in.Given as goal

abbrev pub invariant-loop-shown : goal.invariant-loop-shown
invariant-loop-shown l = fold with_broken l.count (drop l.shown-index l.states) ≡ fold with_broken 0 l.states
