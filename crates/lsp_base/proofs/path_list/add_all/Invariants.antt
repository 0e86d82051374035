use Rattle.std.proofs.Common.{◌≡◌, ◌++◌, ◌+◌, ◌≤◌, length}
use Rattle.std.specs.Vec.Iter.{into_iter_items, into_iter_len}
use Rattle.lsp_base.proofs.path_list.add_all.Given as goal

abbrev pub invariant-loop-path : goal.invariant-loop-path
invariant-loop-path l = record {
  rest : l.paths.items ++ into_iter_items l.path-iterator ≡ l.fn.paths.items ++ l.fn.added.items;
  fits : length l.paths.items + length (into_iter_items l.path-iterator) ≤ l.fn.paths.room;
  room : l.paths.room ≡ l.fn.paths.room;
  len : into_iter_len l.path-iterator ≡ length (into_iter_items l.path-iterator);
}
