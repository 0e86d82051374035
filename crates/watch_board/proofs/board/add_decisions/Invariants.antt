use Rattle.std.proofs.Common.{◌≡◌, ◌≤◌, ◌-◌, ◌++◌, map, reverse, take}
use Rattle.std.specs.Prelude.{filter, string_bytes}
use Rattle.std.specs.List.{flat_map}
use Rattle.serde_json.specs.View.{view}
use Rattle.watch_board.specs.Rows.{step_row}
use Rattle.watch_board.specs.Steps.{is_decided}
use Rattle.watch_board.proofs.board.add_decisions.Given as goal

-- the text so far and the rows of the steps before this place make the whole
abbrev pub invariant-loop-place : goal.invariant-loop-place
invariant-loop-place l = record {
  rows : string_bytes l.text ++ flat_map step_row (take (l.most - l.count) (filter is_decided (reverse (map view (take l.place l.steps)))))
      ≡ string_bytes l.fn.text ++ flat_map step_row (take l.most (filter is_decided (reverse (map view l.steps))));
  few : l.count ≤ l.most;
}
