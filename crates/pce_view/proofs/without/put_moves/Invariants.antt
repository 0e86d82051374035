use Rattle.std.proofs.Common.{◌≡◌, ◌++◌, drop}
use Rattle.json.specs.Tree.{json_tokens, items_tokens}
use Rattle.json.specs.Json.{array}
use Rattle.pce_view.specs.Without.{move_items}
use Rattle.pce_view.proofs.without.put_moves.Given as goal

-- the tokens so far and those of what is left make the whole
abbrev pub invariant-loop-of : goal.invariant-loop-of
invariant-loop-of l =
    (l.writer.before ≡ l.fn.writer.before)
    × (l.writer.tokens ++ items_tokens (move_items (drop l.of-index l.moves)) ≡ l.fn.writer.tokens ++ json_tokens (array (move_items l.moves)))
