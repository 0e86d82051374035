-- Which rows belong to a step.
use Rattle.std.specs.Prelude.{ℕ, ◌==◌, List, filter}
use Rattle.server_counts.specs.declared.residuals.ResidualRow.{ResidualRow}

-- what a step left of links
abbrev pub rows_of : ℕ → List ResidualRow → List ResidualRow
rows_of step rows = filter (λ r. r.step == step) rows
