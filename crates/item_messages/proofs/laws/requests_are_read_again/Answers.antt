use Rattle.item_messages.proofs.RequestsAgain.{again}
use Rattle.item_messages.proofs.laws.requests_are_read_again.Goals as goal

pub returns : goal.returns
returns c = λ request is. again request is
