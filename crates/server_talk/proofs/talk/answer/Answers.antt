use Rattle.server_talk.specs.Watches.{watch_of}
use Rattle.server_talk.proofs.Connecting.{said}
use Rattle.server_talk.proofs.talk.answer.Goals as goal

pub returns-clause-answered : goal.returns-clause-answered
returns-clause-answered g c = λ start unread blank left read s k.
    said g.D.Store (watch_of g.W.Watch c.args.watch.now) c.args.talk.now.peer start c.serve_piece.new.store unread blank read (g.O.Write.contents c.args.writer.now) (g.O.Write.contents c.say.new.writer)
    c.say.result c.serve_piece.new.talk.served_ms c.say.new.talk.served_ms c.serve_piece.new.talk.client c.say.new.talk.client c.say.ensures.moment c.say.ensures.spoken c.say.ensures.out (c.say.ensures.ends_so read)
    (c.serve_piece.ensures.served start unread blank left read (g.O.Write.contents c.args.writer.now) s k)
