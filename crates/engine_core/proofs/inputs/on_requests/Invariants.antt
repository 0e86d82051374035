use Rattle.std.specs.Vec.Iter.{into_iter_items}
use Rattle.engine_core.specs.Engine.{on_requests}
use Rattle.engine_core.specs.Plans.{Plan}
use Rattle.engine_core.specs.Stores.{Carries}
use Rattle.engine_core.specs.declared.client.Client.{Client}
use Rattle.engine_core.proofs.inputs.on_requests.Given as goal

-- the requests that were taken lead to those that are left
abbrev pub invariant-loop-request : goal.invariant-loop-request
invariant-loop-request g l =
    (go_on : Client → Plan Client) → Carries g.S.Store.moves l.fn.store l.store l.fn.client l.client (on_requests l.peer l.fn.requests.items l.fn.client go_on) (on_requests l.peer (into_iter_items l.request-iterator) l.client go_on)
