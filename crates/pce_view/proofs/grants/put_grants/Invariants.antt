use Rattle.std.proofs.Common.{◌≡◌, ◌++◌, drop}
use Rattle.json.specs.Tree.{json_tokens, items_tokens}
use Rattle.json.specs.Json.{array}
use Rattle.pce_view.specs.Grants.{grant_items}
use Rattle.pce_view.proofs.grants.put_grants.Given as goal

-- the tokens so far and those of what is left make the whole
abbrev pub invariant-loop-place : goal.invariant-loop-place
invariant-loop-place l =
    (l.writer.before ≡ l.fn.writer.before)
    × (l.writer.tokens ++ items_tokens (grant_items l.now_ms l.since_ms l.place (drop l.place l.grants)) ≡ l.fn.writer.tokens ++ json_tokens (array (grant_items l.now_ms l.since_ms 0 l.grants)))
