use Rattle.std.proofs.Common.{◌≡◌, map, take}
use Rattle.pce_view.specs.Unanswered.{since_of_deletion}
use Rattle.pce_view.proofs.heard.deletions_since.Given as goal

-- what the table has of the deletions so far
abbrev pub invariant-loop-deletion : goal.invariant-loop-deletion
invariant-loop-deletion l = l.since.items ≡ map (since_of_deletion l.table) (take l.deletion-index l.deletions)
