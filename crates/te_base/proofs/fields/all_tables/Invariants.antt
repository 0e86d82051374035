use Rattle.std.proofs.Common.{◌≡◌, map, drop}
use Rattle.toml.specs.View.{items_view, table_view}
use Rattle.te_base.specs.Fields.{tables_of}
use Rattle.te_base.proofs.Arrays.{with_front}
use Rattle.te_base.proofs.fields.all_tables.Given as goal

abbrev pub invariant-loop-number : goal.invariant-loop-number
invariant-loop-number l = with_front (map (λ t. table_view t.now) l.tables.items) (tables_of l.kind l.number (items_view (drop l.number l.array.items))) ≡ tables_of l.kind 0 (items_view l.array.items)
