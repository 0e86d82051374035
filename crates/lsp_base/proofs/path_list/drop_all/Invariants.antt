use Rattle.std.proofs.Common.{◌≡◌, ◌≤◌, drop, length}
use Rattle.lsp_base.specs.Lsps.{without}
use Rattle.lsp_base.proofs.path_list.drop_all.Given as goal

abbrev pub invariant-loop-path : goal.invariant-loop-path
invariant-loop-path l = record {
  rest : without l.paths.items (drop l.path-index l.dropped) ≡ without l.fn.paths.items l.dropped;
  fewer : length l.paths.items ≤ length l.fn.paths.items;
  room : l.paths.room ≡ l.fn.paths.room;
}
