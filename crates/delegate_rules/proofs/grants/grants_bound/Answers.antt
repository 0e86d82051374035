use Rattle.delegate_rules.proofs.Picks.{bound_picks}
use Rattle.delegate_rules.proofs.grants.grants_bound.Goals as goal

pub paths_of_lsp-requires : goal.paths_of_lsp-requires
paths_of_lsp-requires c = bound_picks c.args.granted c.args.peer c.args.report.now
