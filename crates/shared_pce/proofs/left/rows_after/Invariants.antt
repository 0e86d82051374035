use Rattle.std.proofs.Common.{◌≡◌, map, take}
use Rattle.shared_pce.specs.Residuals.{row_after}
use Rattle.shared_pce.proofs.left.rows_after.Given as goal

-- the rows before this place were read again
abbrev pub invariant-loop-row : goal.invariant-loop-row
invariant-loop-row l = l.rows.items ≡ map (row_after l.database.state) (take l.row-index l.before)
