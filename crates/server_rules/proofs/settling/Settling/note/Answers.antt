use Rattle.std.proofs.Common.{◌∙◌, List, map, ap}
use Rattle.server_rules.specs.Settled.{noted}
use Rattle.server_rules.specs.declared.settling.Awaited.{Awaited}
use Rattle.server_rules.proofs.Awaiting.{noted_more}
use Rattle.server_rules.proofs.settling.Settling.note.Goals as goal

pub returns : goal.returns
returns c = λ named until_ms past s.
    (s.0, c.note_all.ensures ∙ ap (λ (routers : List Awaited). map (noted c.args.address c.args.is_in_sync) routers) s.1 ∙ noted_more named past c.args.address c.args.is_in_sync)
