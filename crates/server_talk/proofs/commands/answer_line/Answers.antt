use Rattle.server_talk.specs.Naming.StandsFor.{Itself}
use Rattle.server_talk.specs.Servers.{server_of}
use Rattle.server_talk.proofs.Operating.{names_lack, stands_plain, waited_named}
use Rattle.server_talk.proofs.commands.answer_line.Goals as goal

pub returns-in-None : goal.returns-in-None
returns-in-None g c = λ start lines said text kept s.
    c.answer_plain.ensures start lines said text text kept.kept (Itself (c.in-None.ensures text kept)) s

pub returns-in-Ok : goal.returns-in-Ok
returns-in-Ok g c = λ start lines said text kept s.
    let found = c.in-Some.ensures text kept in
    let plain = c.in-Ok.ensures.plain in
    c.answer_plain-answer.ensures start lines said text _ plain.2
    (stands_plain (server_of g.D.Store g.D.ServerStore.is_left g.D.Show.has_links g.D.Show.names g.D.Show.shows g.P.Plan.reads c.args.plan.now) c.plain_of.new.store text c.in-Some.text.now plain.0 found.0 found.1 plain.1)
    (waited_named (server_of g.D.Store g.D.ServerStore.is_left g.D.Show.has_links g.D.Show.names g.D.Show.shows g.P.Plan.reads c.args.plan.now) start c.args.store.now c.plain_of.new.store lines said c.plain_of.ensures.same s)

pub returns-in-Err : goal.returns-in-Err
returns-in-Err g c = λ start lines said text kept s.
    names_lack (server_of g.D.Store g.D.ServerStore.is_left g.D.Show.has_links g.D.Show.names g.D.Show.shows g.P.Plan.reads c.args.plan.now) start c.args.store.now c.plain_of.new.store lines said text (c.in-Some.ensures text kept).1 c.plain_of.ensures.same s
