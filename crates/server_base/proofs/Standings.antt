-- The test whether a session is up, after one more call.
use Rattle.std.proofs.Common.{◌≡◌, Bool, List, [], ◌∷◌, ◌++◌, refl}
use Rattle.engine_core.specs.Joining.{joined_by, joined_after}
use Rattle.engine_core.specs.declared.store.Call.{Call}

pub joined_more : (joined : Bool) (calls : List Call) (call : Call) → joined_after joined (calls ++ call ∷ []) ≡ joined_by (joined_after joined calls) call.event call.reply
joined_more joined [] call = refl
joined_more joined (first ∷ calls) call = joined_more (joined_by joined first.event first.reply) calls call
