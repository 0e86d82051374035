use Rattle.std.proofs.Common.{rules, refl}
use Rattle.step_core.specs.States.{asked}
use Rattle.step_core.proofs.PeerLists.{put_there, not_known}
use Rattle.step_core.proofs.state.grants.grant_path.Goals as goal

pub returns-clause-asked : goal.returns-clause-asked
returns-clause-asked c =
    rw (c.next_srp-known.ensures.number, c.in_ok-grant.ensures.queued, ← c.peers.view_is) (put_there c.args.peer c.in-Some.place c.peers.inside.items.items c.index_mut-known.result.now (λ p. asked p c.args.message) (λ p. refl) (search rules) c.index_mut-known.ensures.value)

pub unreachable-requires : goal.unreachable-requires
unreachable-requires c = absurd (cc (c.requires.known, not_known c.args.peer c.args.peers.now (search rules)))
