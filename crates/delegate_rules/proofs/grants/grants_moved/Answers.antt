use Rattle.delegate_rules.proofs.Picks.{kept_picks}
use Rattle.delegate_rules.proofs.grants.grants_moved.Goals as goal

pub paths_of_lsp-requires : goal.paths_of_lsp-requires
paths_of_lsp-requires c = kept_picks c.args.granted c.args.peer c.args.report.now
