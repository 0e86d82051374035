use Rattle.std.proofs.Common.{◌≡◌, ◌++◌, drop, map}
use Rattle.std.specs.Prelude.{string_bytes}
use Rattle.std.specs.List.{flat_map}
use Rattle.serde_json.specs.View.{view}
use Rattle.watch_board.specs.Rows.{row_at}
use Rattle.watch_board.proofs.board.add_links.Given as goal

abbrev pub invariant-loop-share : goal.invariant-loop-share
invariant-loop-share l = string_bytes l.text ++ flat_map (row_at (map view l.links)) (drop l.share-index l.shares) ≡ string_bytes l.fn.text ++ flat_map (row_at (map view l.links)) l.shares
