use Rattle.std.proofs.Common.{◌++◌, ◌∙◌, ap}
use Rattle.json.specs.Tree.{json_tokens}
use Rattle.pce_view.specs.Peers.{peers_json}
use Rattle.pce_view.proofs.Depths.{peers_shallow}
use Rattle.pce_view.proofs.peers.PeersQuestion.json.Goals as goal

pub returns : goal.returns
returns c =
    let whole = peers_json c.args.info.now.uptime_ms c.args.info.now.peer_states.now c.args.seen.now.lsps.items c.args.seen.now.peers.items in
    c.closed.ensures whole
    (c.in_ok-put_all.ensures.before ∙ c.new-writer.ensures.before ∙ c.new.ensures.items)
    (c.in_ok-put_all.ensures.written ∙ ap (λ front. front ++ json_tokens whole) c.new-writer.ensures.tokens)
    (peers_shallow c.args.info.now.uptime_ms c.args.info.now.peer_states.now c.args.seen.now.lsps.items c.args.seen.now.peers.items)
