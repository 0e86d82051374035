use Rattle.std.proofs.Common.{◌≡◌, ◌++◌, drop}
use Rattle.json.specs.Tree.{json_tokens, items_tokens}
use Rattle.json.specs.Json.{array}
use Rattle.pce_view.specs.Tunnels.{tunnel_items}
use Rattle.pce_view.proofs.tunnels.put_tunnels.Given as goal

-- the tokens so far and those of what is left make the whole
abbrev pub invariant-loop-place : goal.invariant-loop-place
invariant-loop-place l =
    (l.writer.before ≡ l.fn.writer.before)
    × (l.writer.tokens ++ items_tokens (tunnel_items l.own l.place (drop l.place l.lsps)) ≡ l.fn.writer.tokens ++ json_tokens (array (tunnel_items l.own 0 l.lsps)))
