use Rattle.std.proofs.Common.{◌≡◌, ◌+◌, ◌≤◌, length}
use Rattle.std.specs.Vec.Iter.{into_iter_items, into_iter_len}
use Rattle.lsp_base.specs.Lsps.{set_records}
use Rattle.lsp_base.proofs.record_table.RecordTable.set_all.Given as goal

abbrev pub invariant-loop-change : goal.invariant-loop-change
invariant-loop-change l = record {
  rest : set_records l.peer l.self.records (into_iter_items l.change-iterator) ≡ set_records l.peer l.fn.self.records l.fn.changes.items;
  fits : l.fn.self.room + length (into_iter_items l.change-iterator) ≤ l.self.room + length l.fn.changes.items;
  len : into_iter_len l.change-iterator ≡ length (into_iter_items l.change-iterator);
}
