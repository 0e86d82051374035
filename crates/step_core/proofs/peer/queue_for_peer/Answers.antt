use Rattle.std.proofs.Common.{rules, refl}
use Rattle.step_core.specs.States.{with_message}
use Rattle.step_core.proofs.PeerLists.{put_there, not_known}
use Rattle.step_core.proofs.peer.queue_for_peer.Goals as goal

pub returns-clause-with_message : goal.returns-clause-with_message
returns-clause-with_message c =
    rw (c.in_ok-push.ensures.added, ← c.peers.view_is) (put_there c.args.number c.in-Some.place c.peers.inside.items.items c.index_mut-peer.result.now (λ p. with_message p c.args.message) (λ p. refl) (search rules) c.index_mut-peer.ensures.value)

pub unreachable-requires : goal.unreachable-requires
unreachable-requires c = absurd (cc (c.requires, not_known c.args.number c.args.peers.now (search rules)))
