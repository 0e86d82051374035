use Rattle.std.proofs.lemmas.Result.{err_from_is_err_and}
use Rattle.pcep_session.specs.Calls.{fed}
use Rattle.engine_core.specs.Engine.{client_with, served_from}
use Rattle.engine_core.specs.Plans.{Returns}
use Rattle.engine_core.specs.declared.client.Client.{Client}
use Rattle.engine_core.proofs.Carrying.{from_session, not_begun, serves_past}
use Rattle.engine_core.proofs.serving.serve_fed.Goals as goal

pub returns-in_err-feed : goal.returns-in_err-feed
returns-in_err-feed g c =
    let p = err_from_is_err_and c.from_residual.result c.from_residual.ensures.1 in
    rw (p.1, p.2) (not_begun g.S.Store.moves g.S.Store.is_full c.args.store.now c.args.client.now c.feed.new.client
    (served_from c.args.peer (client_with (fed c.args.piece.now c.args.now_ms c.args.client.now.session) c.args.client.now) (λ (w : Client). Returns w))
    c.in_err-feed.field-0.0 (g.met.S.Store.moves_nowhere c.args.store.now) c.in_err-feed.ensures.only_memory c.in_err-feed.ensures.unchanged)

pub returns : goal.returns
returns g c =
    serves_past g.S.Store.moves g.S.Store.is_full c.serve_open.result c.args.store.now c.serve_open.new.store c.args.client.now c.serve_open.new.client c.args.client.now
    (served_from c.args.peer (client_with (fed c.args.piece.now c.args.now_ms c.args.client.now.session) c.args.client.now) (λ (w : Client). Returns w)) (λ (w : Client). Returns w)
    (from_session g.S.Store.moves g.S.Store.is_full c.serve_open.result c.args.store.now c.serve_open.new.store (fed c.args.piece.now c.args.now_ms c.args.client.now.session) c.args.client.now c.feed.new.client c.serve_open.new.client
    (λ w. served_from c.args.peer w (λ (x : Client). Returns x)) (λ (w : Client). Returns w) c.in_ok-feed.ensures.fed (c.serve_open.ensures (λ (w : Client). Returns w)))
