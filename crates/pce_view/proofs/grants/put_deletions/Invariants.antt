use Rattle.std.proofs.Common.{◌≡◌, ◌++◌, drop}
use Rattle.json.specs.Tree.{json_tokens, items_tokens}
use Rattle.json.specs.Json.{array}
use Rattle.pce_view.specs.Grants.{deletion_items}
use Rattle.pce_view.proofs.grants.put_deletions.Given as goal

-- the tokens so far and those of what is left make the whole
abbrev pub invariant-loop-place : goal.invariant-loop-place
invariant-loop-place l =
    (l.writer.before ≡ l.fn.writer.before)
    × (l.writer.tokens ++ items_tokens (deletion_items l.now_ms l.since_ms l.place (drop l.place l.deletions)) ≡ l.fn.writer.tokens ++ json_tokens (array (deletion_items l.now_ms l.since_ms 0 l.deletions)))
