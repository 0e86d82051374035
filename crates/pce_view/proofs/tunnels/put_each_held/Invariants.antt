use Rattle.std.proofs.Common.{◌≡◌, ◌++◌, drop}
use Rattle.json.specs.Tree.{json_tokens, items_tokens}
use Rattle.json.specs.Json.{array}
use Rattle.pce_view.specs.Tunnels.{held_items}
use Rattle.pce_view.proofs.tunnels.put_each_held.Given as goal

-- the tokens so far and those of what is left make the whole
abbrev pub invariant-loop-held : goal.invariant-loop-held
invariant-loop-held l =
    (l.writer.before ≡ l.fn.writer.before)
    × (l.writer.tokens ++ items_tokens (held_items (drop l.held-index l.own)) ≡ l.fn.writer.tokens ++ json_tokens (array (held_items l.own)))
