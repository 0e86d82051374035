use Rattle.history_tokens.proofs.Beginnings.{prefix_same}
use Rattle.server_viewers.proofs.viewers.Views.new.Goals as goal

pub invariant_of-result : goal.invariant_of-result
invariant_of-result g c = prefix_same _ _ c.of-shown.ensures
