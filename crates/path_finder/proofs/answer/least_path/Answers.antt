use Rattle.std.proofs.Common.{sym}
use Rattle.path_finder.proofs.Paths.{no_source}
use Rattle.path_finder.proofs.answer.least_path.Goals as goal

pub returns-in-None-clause-none : goal.returns-in-None-clause-none
returns-in-None-clause-none c = no_source c.args.query.now (sym c.in-None.ensures.node)
