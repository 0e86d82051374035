use Rattle.std.proofs.Common.{◌≡◌, map, take}
use Rattle.pce_view.specs.Unanswered.{since_of_grant}
use Rattle.pce_view.proofs.heard.grants_since.Given as goal

-- what the table has of the grants so far
abbrev pub invariant-loop-grant : goal.invariant-loop-grant
invariant-loop-grant l = l.since.items ≡ map (since_of_grant l.table) (take l.grant-index l.grants)
