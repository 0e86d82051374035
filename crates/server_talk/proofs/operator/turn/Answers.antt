use Rattle.std.proofs.Common.{◌<◌, ◌++◌, length, take, refl, arith}
use Rattle.std.proofs.KnownBytes.{Consumes-trans, Consumes-kept}
use Rattle.server_talk.specs.declared.operator.OperatorEnd.TheVariants.{RunEnding}
use Rattle.server_talk.specs.Servers.{server_of}
use Rattle.server_talk.proofs.Operating.{consumed_none, failed, input_ended, left_there, rested, taken}
use Rattle.server_talk.proofs.operator.turn.Goals as goal

pub returns-in-Err-clause-turned : goal.returns-in-Err-clause-turned
returns-in-Err-clause-turned g c = λ start unread blank heard read s.
    failed (server_of g.D.Store g.D.ServerStore.is_left g.D.Show.has_links g.D.Show.names g.D.Show.shows g.P.Plan.reads c.args.plan.now) c.after_fault.result c.kind.result start c.forget.new.self unread blank (g.I.Read.remaining c.read.new.self) (g.O.Write.contents c.args.writer.now) (g.W.Watch.may_close c.args.watch.now) heard c.args.pending.now c.after_fault.ensures
    (Consumes-kept unread (g.I.Read.remaining c.args.reader.now) (g.I.Read.remaining c.read.new.self) heard read c.in-Err.ensures.bytes)
    (rested (server_of g.D.Store g.D.ServerStore.is_left g.D.Show.has_links g.D.Show.names g.D.Show.shows g.P.Plan.reads c.args.plan.now) start c.args.store.now c.forget.new.self blank (g.O.Write.contents c.args.writer.now) heard c.args.pending.now c.forget.ensures.same s)

pub returns-then-count-eq0-clause-turned : goal.returns-then-count-eq0-clause-turned
returns-then-count-eq0-clause-turned g c = λ start unread blank heard read s.
    let room : 0 < length c.read.new.buf = omega arith in
    input_ended (server_of g.D.Store g.D.ServerStore.is_left g.D.Show.has_links g.D.Show.names g.D.Show.shows g.P.Plan.reads c.args.plan.now) start c.args.store.now unread blank (g.I.Read.remaining c.read.new.self) (g.O.Write.contents c.args.writer.now) (g.W.Watch.may_close c.args.watch.now) heard c.args.pending.now
    (consumed_none unread (g.I.Read.remaining c.args.reader.now) (g.I.Read.remaining c.read.new.self) heard c.read.new.buf c.in-Ok.count c.if-count-eq0.true read c.in-Ok.ensures.bytes.0)
    (c.in-Ok.ensures.bytes.1 c.if-count-eq0.true room) s

pub returns-then-is_closing-clause-turned : goal.returns-then-is_closing-clause-turned
returns-then-is_closing-clause-turned g c = λ start unread blank heard read s.
    left_there (server_of g.D.Store g.D.ServerStore.is_left g.D.Show.has_links g.D.Show.names g.D.Show.shows g.P.Plan.reads c.args.plan.now) RunEnding start c.args.store.now unread blank (g.I.Read.remaining c.read.new.self) (g.O.Write.contents c.args.writer.now) (g.W.Watch.may_close c.args.watch.now) heard (take c.in-Ok.count c.read.new.buf) c.args.pending.now refl
    (Consumes-trans unread (g.I.Read.remaining c.args.reader.now) (g.I.Read.remaining c.read.new.self) heard (take c.in-Ok.count c.read.new.buf) read c.in-Ok.ensures.bytes.0) (c.is_closing.ensures c.if-is_closing.true) s

pub returns-clause-turned : goal.returns-clause-turned
returns-clause-turned g c = λ start unread blank heard read s.
    taken (server_of g.D.Store g.D.ServerStore.is_left g.D.Show.has_links g.D.Show.names g.D.Show.shows g.P.Plan.reads c.args.plan.now) c.take_piece.result start c.take_piece.new.store unread blank (g.I.Read.remaining c.read.new.self) (g.O.Write.contents c.take_piece.new.writer) (g.W.Watch.may_close c.args.watch.now) (heard ++ take c.in-Ok.count c.read.new.buf) c.take_piece.new.pending
    (Consumes-trans unread (g.I.Read.remaining c.args.reader.now) (g.I.Read.remaining c.read.new.self) heard (take c.in-Ok.count c.read.new.buf) read c.in-Ok.ensures.bytes.0) (c.take_piece.ensures.taken start blank heard s)
