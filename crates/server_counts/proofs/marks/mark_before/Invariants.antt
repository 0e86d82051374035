use Rattle.std.proofs.Common.{◌≡◌, take}
use Rattle.server_counts.specs.Marks.{before}
use Rattle.server_counts.proofs.marks.mark_before.Given as goal

abbrev pub invariant-loop-mark : goal.invariant-loop-mark
invariant-loop-mark l = l.last ≡ before l.step (take l.mark-index l.marks)
