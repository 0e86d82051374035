-- What was known at one moment over a network, in plain lists.
use Rattle.std.specs.Prelude.{◌≡◌, ◌≤◌, length}
use Rattle.te_base.specs.Ted as network
use Rattle.te_base.specs.Values.{values_in, with_all_values}
use Rattle.step_core.specs.declared.base.Base.{Base}
use Rattle.step_core.specs.Consistent.{IsConsistent}
use Rattle.step_core.specs.States.{State}

-- all that a state knows, apart from nodes, owners, and the ends and addresses of links
abbrev pub known_in : State → Base
known_in s = record {
  values = values_in s.te;
  paths = s.base.paths;
  records = s.base.records;
  names = s.names;
  peers = s.peers;
  tickets = s.tickets;
  changes = s.changes;
  last_session = s.last_session;
  last_ticket = s.last_ticket;
}

-- the state that knows this, over a network of these nodes and links
abbrev pub state_over : network.Ted → Base → State
state_over te b = record {
  te = with_all_values te b.values;
  base = record { paths = b.paths; records = b.records };
  names = b.names;
  peers = b.peers;
  tickets = b.tickets;
  changes = b.changes;
  last_session = b.last_session;
  last_ticket = b.last_ticket;
}

-- This may stand over a network of these nodes and links: it gives each link its values, and holds what every state does
-- that events lead to.
pub record MayStand (te : network.Ted) (b : Base) : Type 0 where
  pub values : length b.values ≡ length te.links
  pub few : length b.paths ≤ 16384
  pub consistent : IsConsistent (state_over te b)
