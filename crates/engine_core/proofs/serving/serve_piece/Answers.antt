use Rattle.std.proofs.Common.{◌≡◌, false, rules}
use Rattle.pcep_session.specs.Turns.{is_closed}
use Rattle.engine_core.proofs.Cases.{still_open}
use Rattle.engine_core.proofs.serving.serve_piece.Goals as goal

pub returns : goal.returns
returns g c =
    let going : is_closed c.args.client.now.session.state ≡ false = search rules in
    still_open g.S.Store.moves g.S.Store.is_full c.serve_fed.result c.args.store.now c.serve_fed.new.store c.args.client.now c.serve_fed.new.client c.args.peer c.args.piece.now c.args.now_ms going c.serve_fed.ensures
