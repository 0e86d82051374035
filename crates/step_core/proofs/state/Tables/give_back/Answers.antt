use Rattle.std.proofs.Common.{rules}
use Rattle.step_core.specs.States.{State}
use Rattle.step_core.proofs.Returned.{has_by_return, refused_reply, refused_state, no_number_reply, no_number_state, returned_reply, returned_state, asking_by}
use Rattle.step_core.proofs.state.Tables.give_back.Goals as goal

pub ask_peer-requires-clause-stand : goal.ask_peer-requires-clause-stand
ask_peer-requires-clause-stand c = has_by_return c.self.inside.network.base _ c.args.peer c.args.plsp c.in-Ok.effect c.lsps.ensures c.in-Ok.ensures.returned

pub returns-in-Err-Why-clause-reply : goal.returns-in-Err-Why-clause-reply
returns-in-Err-Why-clause-reply c = refused_reply c.args.self.now c.args.peer c.args.plsp _ (search rules) (search rules)

pub returns-in-Err-Why-clause-state : goal.returns-in-Err-Why-clause-state
returns-in-Err-Why-clause-state c = refused_state c.args.self.now c.args.peer c.args.plsp c.in-Err-Why.why (search rules) (search rules)

pub returns-in-Some-why_no_number-clause-reply : goal.returns-in-Some-why_no_number-clause-reply
returns-in-Some-why_no_number-clause-reply c = no_number_reply c.args.self.now c.args.peer c.args.plsp c.in-Ok.effect c.in-Some-why_no_number.why (search rules) (search rules) (search rules)

pub returns-in-Some-why_no_number-clause-state : goal.returns-in-Some-why_no_number-clause-state
returns-in-Some-why_no_number-clause-state c = no_number_state c.args.self.now c.args.peer c.args.plsp c.in-Ok.effect c.in-Some-why_no_number.why (search rules) (search rules) (search rules)

pub returns-clause-reply : goal.returns-clause-reply
returns-clause-reply c = returned_reply c.args.self.now c.args.peer c.args.plsp c.in-Ok.effect (search rules) (search rules) (search rules)

pub returns-clause-state : goal.returns-clause-state
returns-clause-state c =
    let s : State = c.args.self.now in
    let inside = c.self.inside in
    let u : State = record { te = inside.network.te; base = inside.network.base; names = inside.network.names; peers = inside.peers; tickets = inside.tickets.tickets; changes = inside.changes; last_session = inside.last_session; last_ticket = inside.tickets.last } in
    let number = c.next_number-number.ensures in
    returned_state s _ c.args.peer c.args.plsp c.in-Ok.effect (search rules) (search rules) (search rules)
    (asking_by s u _ c.args.peer c.args.plsp c.next_number-number.result c.in-Ok.effect c.return_message-message.result c.self.view_is number c.return_message-message.ensures (search rules))
