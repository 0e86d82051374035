use Rattle.std.proofs.Common.{◌≡◌, ◌≤◌, length, drop}
use Rattle.journal_files.specs.Moments.{not_before}
use Rattle.journal_files.proofs.moments.not_before.Given as goal

abbrev pub invariant-loop-i : goal.invariant-loop-i
invariant-loop-i l = record { same : not_before (drop l.i l.moment) (drop l.i l.other) ≡ not_before l.moment l.other; within : l.i ≤ length l.moment }
