use Rattle.std.proofs.Common.{List}
use Rattle.engine_core.specs.Deeds.{Deed}
use Rattle.server_talk.specs.Goings.Goes.{Empties}
use Rattle.server_talk.specs.Watches.{watch_of}
use Rattle.server_talk.proofs.Connecting.{piece_served}
use Rattle.server_talk.proofs.talk.serve_piece.Goals as goal

pub returns-in-Err-clause-served : goal.returns-in-Err-clause-served
returns-in-Err-clause-served g c = λ start unread blank left read written s k.
    piece_served g.D.Store (watch_of g.W.Watch c.args.watch.now) c.serve-served.result c.args.talk.now.peer start c.args.store.now c.serve-served.new.store c.make_room.new.store
    unread blank left read written c.args.piece.now c.args.talk.now.served_ms c.moment_ms-now_ms.result c.args.talk.now.client c.serve-served.new.client c.moment_ms-now_ms.ensures.rises c.moment_ms-now_ms.ensures.shown c.serve-served.ensures.served
    (λ (calls : List Deed) went. c.make_room.ensures start calls (Empties calls c.serve-served.new.store c.forget.new.self went c.forget.ensures.same)) s k

pub returns-in_default-clause-served : goal.returns-in_default-clause-served
returns-in_default-clause-served g c = λ start unread blank left read written s k.
    piece_served g.D.Store (watch_of g.W.Watch c.args.watch.now) c.serve-served.result c.args.talk.now.peer start c.args.store.now c.serve-served.new.store c.forget.new.self
    unread blank left read written c.args.piece.now c.args.talk.now.served_ms c.moment_ms-now_ms.result c.args.talk.now.client c.serve-served.new.client c.moment_ms-now_ms.ensures.rises c.moment_ms-now_ms.ensures.shown c.serve-served.ensures.served
    (λ (calls : List Deed) went. Empties calls c.serve-served.new.store c.forget.new.self went c.forget.ensures.same) s k
