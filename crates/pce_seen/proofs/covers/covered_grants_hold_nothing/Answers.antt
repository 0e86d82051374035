use Rattle.pce_seen.proofs.Covered.{same_share}
use Rattle.pce_seen.proofs.covers.covered_grants_hold_nothing.Goals as goal

pub returns : goal.returns
returns c before after g grant covered t l p = same_share before after g grant covered t l p
