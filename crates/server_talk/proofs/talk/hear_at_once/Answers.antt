use Rattle.server_talk.proofs.Connecting.{hears_kept}
use Rattle.server_talk.proofs.talk.hear_at_once.Goals as goal

pub returns-clause-heard : goal.returns-clause-heard
returns-clause-heard g c =
    hears_kept c.hear.result (g.I.Read.remaining c.args.reader.now) (g.I.Read.remaining c.set_timeout.new.self) (g.I.Read.remaining c.hear.new.reader) c.hear.new.buffer c.set_timeout.ensures.kept c.hear.ensures.heard
