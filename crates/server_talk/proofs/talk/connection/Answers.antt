use Rattle.std.proofs.Common.{inr, ℕ, [], ◌++◌, refl, subst}
use Rattle.server_talk.specs.Goings.Goes.{Stays}
use Rattle.server_talk.specs.Connections.{IsDown}
use Rattle.server_talk.specs.Watches.{watch_of}
use Rattle.server_talk.proofs.Connecting.{begun, over, left_joined}
use Rattle.server_talk.proofs.talk.connection.Goals as goal

pub returns-in_default-clause-down : goal.returns-in_default-clause-down
returns-in_default-clause-down g c = ([], Stays, refl)

pub returns-in-Ok-leave-clause-is_served : goal.returns-in-Ok-leave-clause-is_served
returns-in-Ok-leave-clause-is_served g c =
    let store = c.args.store.now in
    let unread = g.I.Read.remaining c.args.reader.now in
    let blank = g.O.Write.contents c.args.writer.now in
    let s = c.talk_on-ended.ensures.ended store unread blank (begun g.D.Store (watch_of g.W.Watch c.args.watch.now) c.args.peer store unread blank c.now_ms-served_ms.result c.in-Ok.client c.in-Ok.ensures.begun c.now_ms-served_ms.ensures) in
    let h = c.in-Ok-leave.ensures store s.deeds s.goes in
    let after = c.talk_on-ended.new.talk.client in
    inr (over g.D.Store (watch_of g.W.Watch c.args.watch.now) c.args.peer store c.talk_on-ended.new.store c.leave.new.store unread blank
    (g.I.Read.remaining c.talk_on-ended.new.reader) (g.O.Write.contents c.talk_on-ended.new.writer) c.talk_on-ended.result c.end_reason-reason.result c.talk_on-ended.new.talk.served_ms after s c.talk_on-ended.ensures.silent c.end_reason-reason.ensures
    (h.0, subst (λ (n : ℕ). IsDown n after.joined h.0) c.talk_on-ended.ensures.peer h.1, h.2, h.3))

pub returns-in-Ok-leave-clause-down : goal.returns-in-Ok-leave-clause-down
returns-in-Ok-leave-clause-down g c =
    let store = c.args.store.now in
    let unread = g.I.Read.remaining c.args.reader.now in
    let blank = g.O.Write.contents c.args.writer.now in
    let s = c.talk_on-ended.ensures.ended store unread blank (begun g.D.Store (watch_of g.W.Watch c.args.watch.now) c.args.peer store unread blank c.now_ms-served_ms.result c.in-Ok.client c.in-Ok.ensures.begun c.now_ms-served_ms.ensures) in
    let h = c.in-Ok-leave.ensures store s.deeds s.goes in
    let after = c.talk_on-ended.new.talk.client in
    let v = over g.D.Store (watch_of g.W.Watch c.args.watch.now) c.args.peer store c.talk_on-ended.new.store c.leave.new.store unread blank
    (g.I.Read.remaining c.talk_on-ended.new.reader) (g.O.Write.contents c.talk_on-ended.new.writer) c.talk_on-ended.result c.end_reason-reason.result c.talk_on-ended.new.talk.served_ms after s c.talk_on-ended.ensures.silent c.end_reason-reason.ensures
    (h.0, subst (λ (n : ℕ). IsDown n after.joined h.0) c.talk_on-ended.ensures.peer h.1, h.2, h.3) in
    (v.deeds ++ v.last, v.goes, v.down)

pub returns-clause-is_served : goal.returns-clause-is_served
returns-clause-is_served g c =
    let store = c.args.store.now in
    let unread = g.I.Read.remaining c.args.reader.now in
    let blank = g.O.Write.contents c.args.writer.now in
    let s = c.talk_on-ended.ensures.ended store unread blank (begun g.D.Store (watch_of g.W.Watch c.args.watch.now) c.args.peer store unread blank c.now_ms-served_ms.result c.in-Ok.client c.in-Ok.ensures.begun c.now_ms-served_ms.ensures) in
    inr (left_joined g.D.Store (watch_of g.W.Watch c.args.watch.now) c.args.peer store c.talk_on-ended.new.store c.leave.new.store unread blank
    (g.I.Read.remaining c.talk_on-ended.new.reader) (g.O.Write.contents c.talk_on-ended.new.writer) c.talk_on-ended.result c.end_reason-reason.result c.in-Err.fault c.talk_on-ended.new.talk.served_ms c.talk_on-ended.new.talk.client s c.talk_on-ended.ensures.silent c.end_reason-reason.ensures
    (c.in-Err.ensures store s.deeds s.goes))

pub returns-clause-down : goal.returns-clause-down
returns-clause-down g c =
    let store = c.args.store.now in
    let unread = g.I.Read.remaining c.args.reader.now in
    let blank = g.O.Write.contents c.args.writer.now in
    let s = c.talk_on-ended.ensures.ended store unread blank (begun g.D.Store (watch_of g.W.Watch c.args.watch.now) c.args.peer store unread blank c.now_ms-served_ms.result c.in-Ok.client c.in-Ok.ensures.begun c.now_ms-served_ms.ensures) in
    let v = left_joined g.D.Store (watch_of g.W.Watch c.args.watch.now) c.args.peer store c.talk_on-ended.new.store c.leave.new.store unread blank
    (g.I.Read.remaining c.talk_on-ended.new.reader) (g.O.Write.contents c.talk_on-ended.new.writer) c.talk_on-ended.result c.end_reason-reason.result c.in-Err.fault c.talk_on-ended.new.talk.served_ms c.talk_on-ended.new.talk.client s c.talk_on-ended.ensures.silent c.end_reason-reason.ensures
    (c.in-Err.ensures store s.deeds s.goes) in
    (v.deeds ++ v.last, v.goes, v.down)
