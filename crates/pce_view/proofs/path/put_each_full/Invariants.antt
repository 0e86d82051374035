use Rattle.std.proofs.Common.{◌≡◌, ◌++◌, drop}
use Rattle.json.specs.Tree.{json_tokens, items_tokens}
use Rattle.json.specs.Json.{array}
use Rattle.pce_view.specs.Path.{full_items}
use Rattle.pce_view.proofs.path.put_each_full.Given as goal

-- the tokens so far and those of what is left make the whole
abbrev pub invariant-loop-full : goal.invariant-loop-full
invariant-loop-full l =
    (l.writer.before ≡ l.fn.writer.before)
    × (l.writer.tokens ++ items_tokens (full_items (drop l.full-index l.links)) ≡ l.fn.writer.tokens ++ json_tokens (array (full_items l.links)))
