use Rattle.std.proofs.Common.{◌∙◌, List, ap}
use Rattle.std.specs.List.{list_all}
use Rattle.server_rules.specs.declared.settling.Awaited.{Awaited}
use Rattle.server_rules.proofs.Awaiting.{all_in_sync}
use Rattle.server_rules.proofs.settling.Settling.are_in_sync.Goals as goal

pub returns : goal.returns
returns c = λ named until_ms past s.
    c.are_in_sync.ensures ∙ ap (λ (routers : List Awaited). list_all (λ (router : Awaited). router.is_in_sync) routers) (c.deref.ensures.value ∙ s.1) ∙ all_in_sync named past
