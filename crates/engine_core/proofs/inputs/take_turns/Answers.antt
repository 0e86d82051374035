use Rattle.std.proofs.Common.{◌+◌, ◌-◌, rules}
use Rattle.std.proofs.lemmas.Result.{err_from_is_err_and}
use Rattle.pcep_session.specs.Ends.{most_turns}
use Rattle.engine_core.specs.Engine.{on_input, turns}
use Rattle.engine_core.proofs.Carrying.{carries_on, breaks_on}
use Rattle.engine_core.proofs.Turning.{turned_to, turned_out, not_turned}
use Rattle.engine_core.proofs.inputs.take_turns.Goals as goal

pub returns-in_err-input : goal.returns-in_err-input
returns-in_err-input g c = λ go_on.
    let p = err_from_is_err_and c.from_residual.result c.from_residual.ensures.1 in
    rw (p.1, p.2) (not_turned g.S.Store.moves g.S.Store.is_full c.args.store.now c.loop.store c.args.client.now c.loop.client c.next.new.client (turns (most_turns c.args.client.now.session) c.args.peer c.args.client.now go_on)
    (most_turns c.args.client.now.session) c.loop.counter c.args.peer go_on c.in_err-input.field-0.0 (search rules) c.in_err-input.ensures.only_memory c.in_err-input.ensures.unchanged (c.loop.invariant go_on))

pub returns-in_default : goal.returns-in_default
returns-in_default g c = λ go_on.
    turned_out g.S.Store.moves c.args.store.now c.loop.store c.args.client.now c.loop.client c.next.new.client (turns (most_turns c.args.client.now.session) c.args.peer c.args.client.now go_on)
    (most_turns c.args.client.now.session) c.loop.counter c.args.peer go_on (search rules) (search rules) c.in_ok-input.ensures.turned (c.loop.invariant go_on)

pub returns-in_err-on_input : goal.returns-in_err-on_input
returns-in_err-on_input g c = λ go_on.
    let p = err_from_is_err_and c.from_residual-in_err-on_input.result c.from_residual-in_err-on_input.ensures.1 in
    let most = most_turns c.args.client.now.session in
    rw (p.1, p.2)
    (breaks_on g.S.Store.moves g.S.Store.is_full g.met.S.Store.moves_on c.args.store.now c.loop.store c.on_input.new.store c.args.client.now c.next.new.client c.on_input.new.client
    (turns most c.args.peer c.args.client.now go_on) (on_input c.args.peer c.in-Some.input c.next.new.client (λ after. turns (most - (c.loop.counter + 1)) c.args.peer after go_on)) c.in_err-on_input.field-0.0
    (turned_to g.S.Store.moves c.args.store.now c.loop.store c.args.client.now c.loop.client c.next.new.client (turns most c.args.peer c.args.client.now go_on)
    most c.loop.counter c.args.peer c.in-Some.input go_on (search rules) (search rules) c.in_ok-input.ensures.turned (c.loop.invariant go_on))
    (c.in_err-on_input.ensures (λ after. turns (most - (c.loop.counter + 1)) c.args.peer after go_on)))

pub loop-preserved : goal.loop-preserved
loop-preserved g c = λ go_on.
    let most = most_turns c.args.client.now.session in
    carries_on g.S.Store.moves g.met.S.Store.moves_on c.args.store.now c.loop.store c.on_input.new.store c.args.client.now c.next.new.client c.on_input.new.client
    (turns most c.args.peer c.args.client.now go_on) (on_input c.args.peer c.in-Some.input c.next.new.client (λ after. turns (most - (c.loop.counter + 1)) c.args.peer after go_on)) (turns (most - (c.loop.counter + 1)) c.args.peer c.on_input.new.client go_on)
    (turned_to g.S.Store.moves c.args.store.now c.loop.store c.args.client.now c.loop.client c.next.new.client (turns most c.args.peer c.args.client.now go_on)
    most c.loop.counter c.args.peer c.in-Some.input go_on (search rules) (search rules) c.in_ok-input.ensures.turned (c.loop.invariant go_on))
    (c.in_ok-on_input.ensures (λ after. turns (most - (c.loop.counter + 1)) c.args.peer after go_on))
