use Rattle.std.proofs.Common.{◌≡◌, ◌++◌, drop}
use Rattle.json.specs.Tree.{json_tokens, items_tokens}
use Rattle.json.specs.Json.{array}
use Rattle.pce_view.specs.Better.{better_items}
use Rattle.pce_view.proofs.better.put_each_better.Given as goal

-- the tokens so far and those of what is left make the whole
abbrev pub invariant-loop-better : goal.invariant-loop-better
invariant-loop-better l =
    (l.writer.before ≡ l.fn.writer.before)
    × (l.writer.tokens ++ items_tokens (better_items (drop l.better-index l.found)) ≡ l.fn.writer.tokens ++ json_tokens (array (better_items l.found)))
