use Rattle.history_laws.proofs.PlainSteps.{step_comes, step_plain}
use Rattle.history_laws.proofs.local_protection_decides_nothing.Goals as goal

pub returns-clause-nothing_else : goal.returns-clause-nothing_else
returns-clause-nothing_else c = step_plain

pub returns-clause-never_set : goal.returns-clause-never_set
returns-clause-never_set c = step_comes
