use Rattle.history_laws.proofs.Led.{same_reply, same_state}
use Rattle.history_laws.proofs.same_replies.Goals as goal

pub returns-clause-replies : goal.returns-clause-replies
returns-clause-replies c = same_reply

pub returns-clause-states : goal.returns-clause-states
returns-clause-states c = same_state
