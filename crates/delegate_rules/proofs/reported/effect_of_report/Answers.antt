use Rattle.delegate_rules.proofs.Picks.{report_picks}
use Rattle.delegate_rules.proofs.reported.effect_of_report.Goals as goal

pub paths_of_lsp-requires : goal.paths_of_lsp-requires
paths_of_lsp-requires c = report_picks c.args.granted c.args.peer c.args.report.now
