use Rattle.std.proofs.Common.{false, ap}
use Rattle.std.proofs.lemmas.List.{drop_more}
use Rattle.std.specs.List.{flat_map}
use Rattle.pce_seen.specs.declared.peers.PeerSession.{PeerSession}
use Rattle.metrics_text.specs.Samples.{lsps_of}
use Rattle.metrics_text.proofs.Lines.{next}
use Rattle.metrics_text.proofs.peers.put_lsps_of_each.Goals as goal

abbrev no_peer : PeerSession
no_peer = record { peer = 0; is_up = false }

pub loop-peer-preserved : goal.loop-peer-preserved
loop-peer-preserved c =
    next c.args.metric.now c.loop-peer.text.items c.put_lsps_of.new.text.items _ _ _ _
    (ap (flat_map (lsps_of c.args.states.now c.args.each.now)) (drop_more c.args.peers.now c.loop-peer.peer-index no_peer c.loop-peer-test.true))
    c.in_ok-put_lsps_of.ensures c.loop-peer.invariant
