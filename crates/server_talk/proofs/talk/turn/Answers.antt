use Rattle.std.proofs.KnownBytes.{Keeps-trans}
use Rattle.server_talk.specs.Watches.{watch_of}
use Rattle.server_talk.proofs.Connecting.{said, closed, kept, looked, rested}
use Rattle.server_talk.proofs.talk.turn.Goals as goal

pub returns-then-is_closing-clause-turned : goal.returns-then-is_closing-clause-turned
returns-then-is_closing-clause-turned g c = λ start unread blank s.
    said g.D.Store (watch_of g.W.Watch c.args.watch.now) c.args.talk.now.peer start c.args.store.now unread blank (g.I.Read.remaining c.args.reader.now) (g.O.Write.contents c.args.writer.now) (g.O.Write.contents c.say.new.writer)
    c.say.result c.close.new.talk.served_ms c.say.new.talk.served_ms c.close.new.talk.client c.say.new.talk.client c.say.ensures.moment c.say.ensures.spoken c.say.ensures.out (c.say.ensures.ends_so (g.I.Read.remaining c.args.reader.now))
    (closed g.D.Store (watch_of g.W.Watch c.args.watch.now) c.args.talk.now.peer start c.args.store.now unread blank (g.I.Read.remaining c.args.reader.now) (g.O.Write.contents c.args.writer.now)
    c.args.talk.now.served_ms c.close.new.talk.served_ms c.args.talk.now.client c.close.new.talk.client c.close.ensures.moment (c.is_closing.ensures c.if-is_closing.true) c.close.ensures.closed s)

pub returns-then-look_if_due-clause-turned : goal.returns-then-look_if_due-clause-turned
returns-then-look_if_due-clause-turned g c = λ start unread blank s.
    let left = g.I.Read.remaining c.args.reader.now in
    let read = g.I.Read.remaining c.hear-heard.new.reader in
    c.answer_due.ensures.turned start unread blank
    (kept g.D.Store (watch_of g.W.Watch c.args.watch.now) c.args.talk.now.peer start c.look_if_due.new.store unread blank left read (g.O.Write.contents c.args.writer.now) c.args.talk.now.served_ms c.args.talk.now.client
    (Keeps-trans left (g.I.Read.remaining c.wait_for_timer.new.reader) read c.wait_for_timer.ensures.kept c.in-Nothing.ensures.heard)
    (looked g.D.Store (watch_of g.W.Watch c.args.watch.now) c.args.talk.now.peer start c.args.store.now c.look_if_due.new.store unread blank left (g.O.Write.contents c.args.writer.now) c.args.talk.now.served_ms c.args.talk.now.client c.look_if_due.ensures.same s))

pub returns-else-look_if_due-clause-turned : goal.returns-else-look_if_due-clause-turned
returns-else-look_if_due-clause-turned g c = λ start unread blank s.
    rested g.D.Store (watch_of g.W.Watch c.args.watch.now) c.args.talk.now.peer start c.look_if_due.new.store c.forget.new.self unread blank (g.I.Read.remaining c.args.reader.now) (g.I.Read.remaining c.hear-heard.new.reader) (g.O.Write.contents c.args.writer.now) c.args.talk.now.served_ms c.args.talk.now.client c.forget.ensures.same
    (Keeps-trans (g.I.Read.remaining c.args.reader.now) (g.I.Read.remaining c.wait_for_timer.new.reader) (g.I.Read.remaining c.hear-heard.new.reader) c.wait_for_timer.ensures.kept c.in-Nothing.ensures.heard)
    (looked g.D.Store (watch_of g.W.Watch c.args.watch.now) c.args.talk.now.peer start c.args.store.now c.look_if_due.new.store unread blank (g.I.Read.remaining c.args.reader.now) (g.O.Write.contents c.args.writer.now) c.args.talk.now.served_ms c.args.talk.now.client c.look_if_due.ensures.same s)
