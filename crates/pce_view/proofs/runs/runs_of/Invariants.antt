use Rattle.std.proofs.Common.{◌≡◌, take}
use Rattle.pce_view.specs.Runs.{numbers_of}
use Rattle.pce_view.proofs.runs.runs_of.Given as goal

-- the runs are of the numbers so far
abbrev pub invariant-loop-number : goal.invariant-loop-number
invariant-loop-number l = numbers_of l.runs.items ≡ take l.number-index l.numbers
