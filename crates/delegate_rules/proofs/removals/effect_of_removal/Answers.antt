use Rattle.delegate_rules.proofs.Picks.{removal_picks}
use Rattle.delegate_rules.proofs.removals.effect_of_removal.Goals as goal

pub paths_of_lsp-requires : goal.paths_of_lsp-requires
paths_of_lsp-requires c = removal_picks c.args.granted c.args.peer c.args.report.now
