use Rattle.std.proofs.Common.{◌≡◌, take}
use Rattle.server_counts.specs.Residuals.{rows_of}
use Rattle.server_counts.proofs.residuals.rows_of.Given as goal

-- the rows of the step before this place were kept
abbrev pub invariant-loop-row : goal.invariant-loop-row
invariant-loop-row l = l.found.items ≡ rows_of l.step (take l.row-index l.rows)
