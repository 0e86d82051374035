use Rattle.std.proofs.Common.{◌≡◌, map}
use Rattle.std.specs.List.{range_with_len}
use Rattle.server_counts.specs.Marks.{mark_at}
use Rattle.server_counts.proofs.marks.every_other.Given as goal

abbrev pub invariant-loop-half : goal.invariant-loop-half
invariant-loop-half l = l.kept.items ≡ map (mark_at l.marks) (range_with_len 0 l.half)
