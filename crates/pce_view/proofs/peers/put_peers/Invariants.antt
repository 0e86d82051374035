use Rattle.std.proofs.Common.{◌≡◌, ◌++◌, drop}
use Rattle.json.specs.Tree.{json_tokens, items_tokens}
use Rattle.json.specs.Json.{array}
use Rattle.pce_view.specs.Peers.{peer_items}
use Rattle.pce_view.proofs.peers.put_peers.Given as goal

-- the tokens so far and those of what is left make the whole
abbrev pub invariant-loop-peer : goal.invariant-loop-peer
invariant-loop-peer l =
    (l.writer.before ≡ l.fn.writer.before)
    × (l.writer.tokens ++ items_tokens (peer_items l.fn.now_ms l.peer_states l.owners (drop l.peer-index l.peers)) ≡ l.fn.writer.tokens ++ json_tokens (array (peer_items l.fn.now_ms l.peer_states l.owners l.peers)))
