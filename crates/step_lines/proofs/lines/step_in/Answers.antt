use Rattle.step_lines.proofs.StepsAgain.{again}
use Rattle.step_lines.proofs.lines.step_in.Goals as goal

pub returns-clause-each_line : goal.returns-clause-each_line
returns-clause-each_line c = again c.args.line.now c.in_ok-found.found c.in_ok-found.ensures
