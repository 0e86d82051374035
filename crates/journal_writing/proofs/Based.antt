-- What the base of a database is.
use Rattle.std.proofs.Common.{◌≡◌, ap}
use Rattle.te_base.specs.Ted.{Ted}
use Rattle.te_base.specs.Values.{values_in}
use Rattle.step_core.specs.Bases.{known_in, state_over}
use Rattle.step_core.specs.States.{State}
use Rattle.step_core.specs.declared.base.Base.{Base}

-- the base is all that its state knows
pub is_known : (te : Ted) (b : Base) (s : State) → state_over te b ≡ s → b.values ≡ values_in s.te → b ≡ known_in s
is_known te b s is values =
    λ i. record {
      values = values i;
      paths = ap (λ (t : State). t.base.paths) is i;
      records = ap (λ (t : State). t.base.records) is i;
      names = ap (λ (t : State). t.names) is i;
      peers = ap (λ (t : State). t.peers) is i;
      tickets = ap (λ (t : State). t.tickets) is i;
      changes = ap (λ (t : State). t.changes) is i;
      last_session = ap (λ (t : State). t.last_session) is i;
      last_ticket = ap (λ (t : State). t.last_ticket) is i;
    }
