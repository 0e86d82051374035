use Rattle.std.proofs.Common.{◌≡◌, ◌++◌, drop}
use Rattle.json.specs.Tree.{json_tokens, items_tokens}
use Rattle.json.specs.Json.{array}
use Rattle.pce_view.specs.Links.{nodes_json}
use Rattle.pce_view.proofs.links.put_nodes.Given as goal

-- the tokens so far and those of what is left make the whole
abbrev pub invariant-loop-number : goal.invariant-loop-number
invariant-loop-number l =
    (l.writer.before ≡ l.fn.writer.before)
    × (l.writer.tokens ++ items_tokens (nodes_json l.number (drop l.number l.nodes)) ≡ l.fn.writer.tokens ++ json_tokens (array (nodes_json 0 l.nodes)))
