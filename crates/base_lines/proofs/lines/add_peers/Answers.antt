use Rattle.std.proofs.Common.{string_bytes}
use Rattle.std.specs.List.{list_all}
use Rattle.base_lines.specs.Items.{peers_items}
use Rattle.base_lines.specs.Lines.{peer_has_lines, text_of_items}
use Rattle.std.proofs.Common.{◌++◌}
use Rattle.base_lines.proofs.Texts.{one_more, one_more_has}
use Rattle.base_lines.proofs.lines.add_peers.Goals as goal

pub loop-peer-preserved : goal.loop-peer-preserved
loop-peer-preserved c =
    let here = c.loop-peer in
    let peers = c.args.peers.now in
    let p = c.peer-item.result in (
      one_more peers here.peer-index p (string_bytes here.text) (string_bytes c.add_peer.new.text) (string_bytes c.args.text.now ++ text_of_items (peers_items peers)) c.loop-peer-test.true c.peer-item.is c.in_ok-add_peer.ensures.words here.invariant.0,
      one_more_has peers here.peer-index p (list_all peer_has_lines peers) c.loop-peer-test.true c.peer-item.is c.in_ok-add_peer.ensures.has here.invariant.1,
    )
