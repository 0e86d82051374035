use Rattle.std.specs.Vec.Iter.{into_iter_items}
use Rattle.engine_core.specs.Engine.{on_reports}
use Rattle.engine_core.specs.Plans.{Plan}
use Rattle.engine_core.specs.Stores.{Carries}
use Rattle.engine_core.specs.declared.client.Client.{Client}
use Rattle.engine_core.proofs.inputs.on_reports.Given as goal

-- the reports that were taken lead to those that are left
abbrev pub invariant-loop-report : goal.invariant-loop-report
invariant-loop-report g l =
    (go_on : Client → Plan Client) → Carries g.S.Store.moves l.fn.store l.store l.fn.client l.client (on_reports l.peer l.fn.reports.items l.fn.client go_on) (on_reports l.peer (into_iter_items l.report-iterator) l.client go_on)
