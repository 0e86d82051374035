use Rattle.std.proofs.Common.{◌≡◌, ◌++◌, drop}
use Rattle.json.specs.Tree.{json_tokens, items_tokens}
use Rattle.json.specs.Json.{array}
use Rattle.pce_view.specs.Tunnels.{path_items}
use Rattle.pce_view.proofs.tunnels.put_paths.Given as goal

-- the tokens so far and those of what is left make the whole
abbrev pub invariant-loop-path : goal.invariant-loop-path
invariant-loop-path l =
    (l.writer.before ≡ l.fn.writer.before)
    × (l.writer.tokens ++ items_tokens (path_items (drop l.path-index l.paths)) ≡ l.fn.writer.tokens ++ json_tokens (array (path_items l.paths)))
