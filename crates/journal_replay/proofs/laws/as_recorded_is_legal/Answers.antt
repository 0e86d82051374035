use Rattle.journal_replay.proofs.Legal.{legal, as_recorded}
use Rattle.journal_replay.proofs.laws.as_recorded_is_legal.Goals as goal

pub returns : goal.returns
returns c = λ at to lines. (legal at lines to, as_recorded at lines to)
