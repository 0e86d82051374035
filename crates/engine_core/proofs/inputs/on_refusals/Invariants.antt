use Rattle.std.specs.Vec.Iter.{into_iter_items}
use Rattle.engine_core.specs.Engine.{on_refusals}
use Rattle.engine_core.specs.Plans.{Plan}
use Rattle.engine_core.specs.Stores.{Carries}
use Rattle.engine_core.specs.declared.client.Client.{Client}
use Rattle.engine_core.proofs.inputs.on_refusals.Given as goal

-- the refusals that were taken lead to those that are left
abbrev pub invariant-loop-srp : goal.invariant-loop-srp
invariant-loop-srp g l =
    (go_on : Client → Plan Client) → Carries g.S.Store.moves l.fn.store l.store l.client l.client (on_refusals l.peer l.fn.srps.items l.client go_on) (on_refusals l.peer (into_iter_items l.srp-iterator) l.client go_on)
