use Rattle.std.proofs.Common.{◌≡◌, true, false, refl, rules}
use Rattle.std.proofs.lemmas.Result.{err_from_is_err_and}
use Rattle.pcep_session.specs.Turns.{is_up}
use Rattle.engine_core.specs.Calls.{newest_reply}
use Rattle.engine_core.specs.Engine.{messages_of}
use Rattle.engine_core.proofs.Cases.{not_up}
use Rattle.engine_core.proofs.Sending.{drained, not_drained, serves_sent}
use Rattle.engine_core.proofs.serving.drain.Goals as goal

pub returns-in_err-hand_in : goal.returns-in_err-hand_in
returns-in_err-hand_in g c = λ go_on.
    let p = err_from_is_err_and c.from_residual.result c.from_residual.ensures.1 in
    let up : is_up c.args.client.now.session.state ≡ true = search rules in
    rw (p.1, p.2) (not_drained g.S.Store.moves g.S.Store.is_full c.args.store.now c.hand_in.new.store c.args.client.now _ c.args.peer go_on c.in_err-hand_in.field-0.0 up refl c.in_err-hand_in.ensures.unchanged (search rules))

pub returns : goal.returns
returns g c = λ go_on.
    let up : is_up c.args.client.now.session.state ≡ true = search rules in
    let store = c.hand_in.new.store in
    let reply = newest_reply (g.S.Store.calls store) in
    drained g.S.Store.moves g.S.Store.is_full g.met.S.Store.moves_on c.send_out.result c.args.store.now store c.args.client.now c.send_out.new.client c.args.peer reply go_on up c.in_ok-hand_in.ensures.submitted
    (serves_sent g.S.Store.moves g.S.Store.is_full c.send_out.result store (messages_of reply) c.args.client.now c.send_out.new.client go_on (g.met.S.Store.moves_nowhere store)
    c.send_out.ensures.sent c.send_out.ensures.some_sent c.send_out.ensures.only_memory c.send_out.ensures.joined)

pub returns-then-not-is_up : goal.returns-then-not-is_up
returns-then-not-is_up g c = λ go_on.
    let down : is_up c.args.client.now.session.state ≡ false = search rules in
    not_up g.S.Store.moves c.args.store.now c.args.client.now c.args.peer go_on down (g.met.S.Store.moves_nowhere c.args.store.now)
