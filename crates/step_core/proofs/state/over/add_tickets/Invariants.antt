use Rattle.std.proofs.Common.{◌≡◌, ◌++◌}
use Rattle.std.specs.Vec.Iter.{into_iter_items}
use Rattle.step_core.specs.Standing.{may_have_tickets}
use Rattle.step_core.proofs.state.over.add_tickets.Given as goal

-- the tickets that are there now, followed by those that are left, are all tickets
abbrev pub invariant-loop-ticket : goal.invariant-loop-ticket
invariant-loop-ticket l = record {
  all : l.table.tickets ++ into_iter_items l.ticket-iterator ≡ l.fn.table.tickets ++ l.fn.tickets.items;
  decided : may_have_tickets l.last l.table.last (into_iter_items l.ticket-iterator) ≡ may_have_tickets l.last l.fn.table.last l.fn.tickets.items;
}
