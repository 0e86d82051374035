use Rattle.std.proofs.Common.{◌≡◌, drop, map}
use Rattle.serde_json.specs.View.{view}
use Rattle.watch_board.specs.Boards.{counted_lsps}
use Rattle.watch_board.proofs.board.count_states.Given as goal

abbrev pub invariant-loop-lsp : goal.invariant-loop-lsp
invariant-loop-lsp l = counted_lsps l.counts (map view (drop l.lsp-index l.lsps)) ≡ counted_lsps l.fn.counts (map view l.lsps)
