use Rattle.std.proofs.Common.{◌≡◌, ◌++◌, drop, map}
use Rattle.std.specs.Prelude.{string_bytes}
use Rattle.std.specs.List.{flat_map}
use Rattle.serde_json.specs.View.{view}
use Rattle.watch_board.specs.Boards.{row_of_grant}
use Rattle.watch_board.proofs.board.add_each_grant.Given as goal

abbrev pub invariant-loop-grant : goal.invariant-loop-grant
invariant-loop-grant l = string_bytes l.text ++ flat_map row_of_grant (map view (drop l.grant-index l.grants)) ≡ string_bytes l.fn.text ++ flat_map row_of_grant (map view l.grants)
