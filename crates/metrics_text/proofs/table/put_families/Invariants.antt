use Rattle.std.proofs.Common.{◌≡◌, ◌++◌, drop}
use Rattle.metrics_text.specs.Exposition.{exposition}
use Rattle.metrics_text.specs.Rows.{rows_families}
use Rattle.metrics_text.proofs.table.put_families.Given as goal

abbrev pub invariant-loop-row : goal.invariant-loop-row
invariant-loop-row l = l.text.items ++ exposition (rows_families l.of (drop l.row-index l.rows)) ≡ l.fn.text.items ++ exposition (rows_families l.of l.rows)
