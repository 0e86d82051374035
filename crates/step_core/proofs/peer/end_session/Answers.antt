use Rattle.std.proofs.Common.{rules, refl}
use Rattle.step_core.specs.States.{out_of_session}
use Rattle.step_core.proofs.PeerLists.{put_there, not_known}
use Rattle.step_core.proofs.peer.end_session.Goals as goal

pub returns-in-Some : goal.returns-in-Some
returns-in-Some c =
    rw (c.take-dropped.ensures.empty, ← c.peers.view_is) (put_there c.args.number c.in-Some.place c.peers.inside.items.items c.index_mut-peer.result.now out_of_session (λ p. refl) (search rules) c.index_mut-peer.ensures.value)

pub returns-in_default : goal.returns-in_default
returns-in_default c = absurd (cc (c.requires, not_known c.args.number c.args.peers.now (search rules)))
