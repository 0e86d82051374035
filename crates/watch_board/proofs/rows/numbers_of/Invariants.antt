use Rattle.std.proofs.Common.{◌≡◌, map, take}
use Rattle.serde_json.specs.View.{view}
use Rattle.watch_board.specs.Rows.{number_of}
use Rattle.watch_board.proofs.rows.numbers_of.Given as goal

abbrev pub invariant-loop-value : goal.invariant-loop-value
invariant-loop-value l = l.numbers.items ≡ map number_of (map view (take l.value-index l.values))
