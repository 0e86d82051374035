use Rattle.std.proofs.Common.{◌≡◌, drop}
use Rattle.server_counts.specs.Marks.{behind}
use Rattle.server_counts.proofs.marks.mark_behind.Given as goal

-- the first match is among the remaining marks
abbrev pub invariant-loop-mark : goal.invariant-loop-mark
invariant-loop-mark l = behind l.step (drop l.mark-index l.marks) ≡ behind l.step l.marks
