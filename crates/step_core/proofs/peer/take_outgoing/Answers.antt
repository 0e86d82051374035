use Rattle.std.proofs.Common.{rules, refl, ◌∙◌, ap, sym}
use Rattle.step_core.specs.States.{emptied}
use Rattle.step_core.specs.declared.peer.Peer.{Peer}
use Rattle.step_core.proofs.PeerLists.{put_there, there_is, not_known}
use Rattle.step_core.proofs.peer.take_outgoing.Goals as goal

pub returns-in-Some-clause-messages : goal.returns-in-Some-clause-messages
returns-in-Some-clause-messages c =
    rw (← c.peers.view_is) (c.take.ensures.taken ∙ ap (λ (p : Peer). p.outgoing) (sym (there_is c.args.number c.in-Some.place c.peers.inside.items.items c.index_mut.result.now (search rules) c.index_mut.ensures.value)))

pub returns-in-Some-clause-peers : goal.returns-in-Some-clause-peers
returns-in-Some-clause-peers c =
    rw (c.take.ensures.empty, ← c.peers.view_is) (put_there c.args.number c.in-Some.place c.peers.inside.items.items c.index_mut.result.now emptied (λ p. refl) (search rules) c.index_mut.ensures.value)

pub returns-in-None-clause-messages : goal.returns-in-None-clause-messages
returns-in-None-clause-messages c = absurd (cc (c.requires, not_known c.args.number c.args.peers.now (search rules)))

pub returns-in-None-clause-peers : goal.returns-in-None-clause-peers
returns-in-None-clause-peers c = absurd (cc (c.requires, not_known c.args.number c.args.peers.now (search rules)))
