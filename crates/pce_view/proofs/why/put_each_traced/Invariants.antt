use Rattle.std.proofs.Common.{◌≡◌, ◌++◌, drop}
use Rattle.json.specs.Tree.{json_tokens, items_tokens}
use Rattle.json.specs.Json.{array}
use Rattle.pce_view.specs.Why.{traced_items}
use Rattle.pce_view.proofs.why.put_each_traced.Given as goal

-- the tokens so far and those of what is left make the whole
abbrev pub invariant-loop-seen : goal.invariant-loop-seen
invariant-loop-seen l =
    (l.writer.before ≡ l.fn.writer.before)
    × (l.writer.tokens ++ items_tokens (traced_items l.fn.now_ms l.marks l.residuals (drop l.seen-index l.paths)) ≡ l.fn.writer.tokens ++ json_tokens (array (traced_items l.fn.now_ms l.marks l.residuals l.paths)))
