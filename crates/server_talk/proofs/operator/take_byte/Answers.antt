use Rattle.script_lines.specs.Lines.{cut}
use Rattle.server_talk.specs.Servers.{server_of}
use Rattle.server_talk.proofs.Operating.{byte_heard, break_heard, break_stops}
use Rattle.server_talk.proofs.operator.take_byte.Goals as goal

pub returns-then-byte-ne10-clause-taken : goal.returns-then-byte-ne10-clause-taken
returns-then-byte-ne10-clause-taken g c = λ start blank heard s.
    byte_heard (server_of g.D.Store g.D.ServerStore.is_left g.D.Show.has_links g.D.Show.names g.D.Show.shows g.P.Plan.reads c.args.plan.now) start c.args.store.now blank (g.O.Write.contents c.args.writer.now) heard c.args.byte c.args.pending.now c.add.new.self c.if-byte-ne10.true c.add.ensures.number c.add.ensures.kept s

pub returns-in-Some-clause-taken : goal.returns-in-Some-clause-taken
returns-in-Some-clause-taken g c = λ start blank heard s.
    break_stops (server_of g.D.Store g.D.ServerStore.is_left g.D.Show.has_links g.D.Show.names g.D.Show.shows g.P.Plan.reads c.args.plan.now) c.in-Some.end start c.take_line.new.store blank (g.O.Write.contents c.take_line.new.writer) heard c.args.byte c.if-byte-ne10.false (c.in-Some.ensures.taken start (cut heard).0 blank (cut heard).1 s.kept s.number s.answers)

pub returns-in-None-clause-taken : goal.returns-in-None-clause-taken
returns-in-None-clause-taken g c = λ start blank heard s.
    break_heard (server_of g.D.Store g.D.ServerStore.is_left g.D.Show.has_links g.D.Show.names g.D.Show.shows g.P.Plan.reads c.args.plan.now) start c.take_line.new.store blank (g.O.Write.contents c.take_line.new.writer) heard c.args.byte c.args.pending.now c.end.new.self c.if-byte-ne10.false c.end.ensures.number c.end.ensures.kept s.kept s.number
    (c.in-None.ensures.taken start (cut heard).0 blank (cut heard).1 s.kept s.number s.answers)
