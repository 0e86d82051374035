use Rattle.std.proofs.Common.{◌≡◌, ◌++◌, drop}
use Rattle.json.specs.Tree.{json_tokens, items_tokens}
use Rattle.json.specs.Json.{array}
use Rattle.pce_view.specs.Why.{left_row_items}
use Rattle.pce_view.proofs.left.put_each_row.Given as goal

-- the tokens so far and those of what is left make the whole
abbrev pub invariant-loop-row : goal.invariant-loop-row
invariant-loop-row l =
    (l.writer.before ≡ l.fn.writer.before)
    × (l.writer.tokens ++ items_tokens (left_row_items (drop l.row-index l.rows)) ≡ l.fn.writer.tokens ++ json_tokens (array (left_row_items l.rows)))
