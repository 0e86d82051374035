use Rattle.std.proofs.Common.{Some, inl, refl, sym, ap}
use Rattle.pcep_session.specs.declared.contents.Contents.{Contents}
use Rattle.engine_core.specs.Engine.{client_with}
use Rattle.server_talk.proofs.Connecting.{ended_ok}
use Rattle.server_talk.proofs.talk.close.Goals as goal

pub returns-else-is_err-clause-closed : goal.returns-else-is_err-clause-closed
returns-else-is_err-clause-closed c =
    (Some 1, inl refl, ap (λ (s : Contents). client_with s c.args.talk.now.client) (ended_ok c.end.result c.args.talk.now.client.session c.end.new.self _ (sym c.if-is_err.ensures.value) c.end.ensures.step))
