use Rattle.std.proofs.Common.{rules, ◌≡◌, refl}
use Rattle.std.specs.Prelude.{unwrap_or, is_some}
use Rattle.step_core.specs.States.{in_session, no_capabilities}
use Rattle.step_core.proofs.PeerLists.{put_there, put_new, not_known}
use Rattle.step_core.proofs.peer.begin_session.Goals as goal

pub returns-in-Some : goal.returns-in-Some
returns-in-Some c =
    let capabilities : c.unwrap_or-capabilities.result ≡ unwrap_or c.args.sent no_capabilities = search rules in
    let syncing : c.is_some-syncing.result ≡ is_some c.args.sent = search rules in
    rw (capabilities, syncing, ← c.peers.view_is) (put_there c.args.number c.in-Some.place c.peers.inside.items.items c.index_mut-peer.result.now (λ p. in_session p c.args.session c.args.sent) (λ p. refl) (search rules) c.index_mut-peer.ensures.value)

pub push-requires : goal.push-requires
push-requires c = c.requires (not_known c.args.number c.args.peers.now (search rules))

pub returns : goal.returns
returns c =
    let capabilities : c.unwrap_or-capabilities.result ≡ unwrap_or c.args.sent no_capabilities = search rules in
    let syncing : c.is_some-syncing.result ≡ is_some c.args.sent = search rules in
    rw (c.push.ensures, capabilities, syncing, c.new.ensures) (put_new c.args.number c.args.peers.now (λ p. in_session p c.args.session c.args.sent) (λ p. refl) (search rules))
