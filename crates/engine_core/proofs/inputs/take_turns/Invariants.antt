use Rattle.std.proofs.Common.{◌-◌}
use Rattle.pcep_session.specs.Ends.{most_turns}
use Rattle.engine_core.specs.Engine.{turns}
use Rattle.engine_core.specs.Plans.{Plan}
use Rattle.engine_core.specs.Stores.{Carries}
use Rattle.engine_core.specs.declared.client.Client.{Client}
use Rattle.engine_core.proofs.inputs.take_turns.Given as goal

-- the turns that were taken lead to those that are left
abbrev pub invariant-loop : goal.invariant-loop
invariant-loop g l =
    (go_on : Client → Plan Client) → Carries g.S.Store.moves l.fn.store l.store l.fn.client l.client (turns (most_turns l.fn.client.session) l.peer l.fn.client go_on) (turns (most_turns l.fn.client.session - l.counter) l.peer l.client go_on)
