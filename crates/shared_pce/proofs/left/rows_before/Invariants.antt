use Rattle.std.proofs.Common.{◌≡◌, map, take}
use Rattle.shared_pce.specs.Residuals.{row_before}
use Rattle.shared_pce.proofs.left.rows_before.Given as goal

-- the links before this place were read
abbrev pub invariant-loop-link : goal.invariant-loop-link
invariant-loop-link l = l.rows.items ≡ map (row_before l.database l.priority) (take l.link-index l.links)
