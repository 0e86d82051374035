use Rattle.server_talk.specs.Goings.Goes.{Stays}
use Rattle.server_talk.specs.Operators.{number_behind}
use Rattle.server_talk.specs.Servers.{server_of}
use Rattle.server_talk.proofs.Operating.{answered_at_once, answered_after_roll, answered_starved, was_full}
use Rattle.server_talk.proofs.commands.answer_plain.Goals as goal

pub returns-then-not-is_full : goal.returns-then-not-is_full
returns-then-not-is_full g c = λ start lines said line text kept stands s.
    answered_at_once (server_of g.D.Store g.D.ServerStore.is_left g.D.Show.has_links g.D.Show.names g.D.Show.shows g.P.Plan.reads c.args.plan.now) c.answer_once-first.result start c.args.store.now c.args.store.now c.answer_once-first.new.store lines said line text (c.is_full.ensures.other c.if-not-is_full.true) (c.answer_once-first.ensures (number_behind lines) text kept) Stays stands s

pub returns-in-Ok : goal.returns-in-Ok
returns-in-Ok g c = λ start lines said line text kept stands s.
    answered_after_roll (server_of g.D.Store g.D.ServerStore.is_left g.D.Show.has_links g.D.Show.names g.D.Show.shows g.P.Plan.reads c.args.plan.now) c.answer_once.result c.in-Ok.field-0 start c.args.store.now c.answer_once-first.new.store c.roll.new.self c.answer_once.new.store lines said line text
    (was_full (server_of g.D.Store g.D.ServerStore.is_left g.D.Show.has_links g.D.Show.names g.D.Show.shows g.P.Plan.reads c.args.plan.now) c.answer_once-first.result (number_behind lines) text c.args.store.now c.answer_once-first.new.store (c.is_full.ensures.full c.if-not-is_full.false) (c.answer_once-first.ensures (number_behind lines) text kept))
    c.in-Ok.ensures.rolled (c.answer_once.ensures (number_behind lines) text kept) stands s

pub returns : goal.returns
returns g c = λ start lines said line text kept stands s.
    answered_starved (server_of g.D.Store g.D.ServerStore.is_left g.D.Show.has_links g.D.Show.names g.D.Show.shows g.P.Plan.reads c.args.plan.now) start c.args.store.now c.answer_once-first.new.store c.roll.new.self lines said line text
    (was_full (server_of g.D.Store g.D.ServerStore.is_left g.D.Show.has_links g.D.Show.names g.D.Show.shows g.P.Plan.reads c.args.plan.now) c.answer_once-first.result (number_behind lines) text c.args.store.now c.answer_once-first.new.store (c.is_full.ensures.full c.if-not-is_full.false) (c.answer_once-first.ensures (number_behind lines) text kept))
    c.in-Err.ensures.unchanged stands s
