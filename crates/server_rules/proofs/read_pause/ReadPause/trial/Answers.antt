use Rattle.std.proofs.Common.{◌∙◌, rules, tests, ap}
use Rattle.std.specs.List.{find}
use Rattle.std.proofs.lemmas.Iterator.{YieldsList-from_slice}
use Rattle.std.proofs.lemmas.Iterator.Search.{find_from_yields_List}
use Rattle.server_rules.specs.Pauses.{Paused, counts_of}
use Rattle.server_rules.proofs.read_pause.ReadPause.trial.Goals as goal

pub returns : goal.returns
returns c =
    c.copied.ensures
    ∙ find_from_yields_List (counts_of c.args.plsp c.args.now_ms) _ _ c.find.result c.find.ensures.ran (YieldsList-from_slice c.self.inside.trials.items cc) (λ x b q k. search (rules, tests))
    ∙ ap (λ (p : Paused). find (counts_of c.args.plsp c.args.now_ms) p.trials) c.self.view_is
