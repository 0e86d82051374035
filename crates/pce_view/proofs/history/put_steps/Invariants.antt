use Rattle.std.proofs.Common.{◌≡◌, ◌++◌, drop}
use Rattle.json.specs.Tree.{json_tokens, items_tokens}
use Rattle.json.specs.Json.{array}
use Rattle.pce_view.specs.History.{step_items}
use Rattle.pce_view.proofs.history.put_steps.Given as goal

-- the tokens so far and those of what is left make the whole
abbrev pub invariant-loop-number : goal.invariant-loop-number
invariant-loop-number l =
    (l.writer.before ≡ l.fn.writer.before)
    × (l.writer.tokens ++ items_tokens (step_items l.first l.number (drop l.number l.steps)) ≡ l.fn.writer.tokens ++ json_tokens (array (step_items l.first 0 l.steps)))
