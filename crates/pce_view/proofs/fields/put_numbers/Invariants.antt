use Rattle.std.proofs.Common.{◌≡◌, ◌++◌, drop}
use Rattle.json.specs.Tree.{json_tokens, items_tokens}
use Rattle.json.specs.Json.{array}
use Rattle.pce_view.specs.Fields.{wholes}
use Rattle.pce_view.proofs.fields.put_numbers.Given as goal

-- the tokens so far and those of the numbers that are left make the whole
abbrev pub invariant-loop-n : goal.invariant-loop-n
invariant-loop-n l =
    (l.writer.before ≡ l.fn.writer.before)
    × (l.writer.tokens ++ items_tokens (wholes (drop l.n-index l.numbers)) ≡ l.fn.writer.tokens ++ json_tokens (array (wholes l.numbers)))
