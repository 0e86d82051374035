use Rattle.std.proofs.Common.{◌≡◌, ◌++◌, drop}
use Rattle.json.specs.Tree.{json_tokens, items_tokens}
use Rattle.json.specs.Json.{array}
use Rattle.pce_view.specs.Links.{links_json}
use Rattle.pce_view.proofs.links.put_links.Given as goal

-- the tokens so far and those of what is left make the whole
abbrev pub invariant-loop-number : goal.invariant-loop-number
invariant-loop-number l =
    (l.writer.before ≡ l.fn.writer.before)
    × (l.writer.tokens ++ items_tokens (links_json l.nodes l.number (drop l.number l.links) (drop l.number l.lefts)) ≡ l.fn.writer.tokens ++ json_tokens (array (links_json l.nodes 0 l.links l.lefts)))
