use Rattle.std.proofs.Common.{◌≡◌, ◌++◌, drop}
use Rattle.json.specs.Tree.{items_tokens}
use Rattle.te_words.specs.Places.{places_json}
use Rattle.te_words.proofs.places.put_places.Given as goal

-- the tokens so far and those of what is left make the whole
abbrev pub invariant-loop-number : goal.invariant-loop-number
invariant-loop-number l =
    (l.writer.before ≡ l.fn.writer.before)
    × (l.writer.tokens ++ items_tokens (places_json (drop l.number l.base.nodes)) ≡ l.fn.writer.tokens ++ items_tokens (places_json l.base.nodes))
