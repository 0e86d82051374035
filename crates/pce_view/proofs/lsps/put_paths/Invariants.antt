use Rattle.std.proofs.Common.{◌≡◌, ◌++◌, drop}
use Rattle.json.specs.Tree.{json_tokens, items_tokens}
use Rattle.json.specs.Json.{array}
use Rattle.pce_view.specs.Lsps.{path_items}
use Rattle.pce_view.proofs.lsps.put_paths.Given as goal

-- the tokens so far and those of what is left make the whole
abbrev pub invariant-loop-place : goal.invariant-loop-place
invariant-loop-place l =
    (l.writer.before ≡ l.fn.writer.before)
    × (l.writer.tokens ++ items_tokens (path_items l.words l.gaps l.place (drop l.place l.paths)) ≡ l.fn.writer.tokens ++ json_tokens (array (path_items l.words l.gaps 0 l.paths)))
