use Rattle.std.proofs.Common.{[]}
use Rattle.std.proofs.KnownBytes.{Consumes-nil, Consumes-kept}
use Rattle.server_talk.proofs.talk.answer_due.Goals as goal

pub returns-in-Nothing-clause-turned : goal.returns-in-Nothing-clause-turned
returns-in-Nothing-clause-turned g c = λ start unread blank s.
    let left = g.I.Read.remaining c.args.reader.now in
    let read = g.I.Read.remaining c.hear_at_once.new.reader in
    c.answer-in-Nothing.ensures.answered start unread blank left read s (Consumes-kept left left read [] (Consumes-nil left) c.in-Nothing.ensures.heard)
