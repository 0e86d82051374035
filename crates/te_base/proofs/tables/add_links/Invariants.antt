use Rattle.std.proofs.Common.{◌≡◌, map, drop}
use Rattle.toml.specs.View.{table_view}
use Rattle.te_base.specs.LinkText.{with_links}
use Rattle.te_base.specs.Views.{base_in}
use Rattle.te_base.proofs.tables.add_links.Given as goal

-- what is left to add leads to what all of it leads to
abbrev pub invariant-loop-table : goal.invariant-loop-table
invariant-loop-table l = with_links (map (λ t. table_view t.now) (drop l.table-index l.tables)) (base_in l.parts) ≡ with_links (map (λ t. table_view t.now) l.tables) (base_in l.fn.parts)
