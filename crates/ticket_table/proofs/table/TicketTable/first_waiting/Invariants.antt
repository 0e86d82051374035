use Rattle.std.proofs.Common.{◌≡◌}
use Rattle.ticket_table.specs.Tickets.{first_waiting}
use Rattle.ticket_table.proofs.table.TicketTable.first_waiting.Given as goal

-- the first waiting ticket is among the tickets that are still to be looked at
abbrev pub invariant-loop-standing : goal.invariant-loop-standing
invariant-loop-standing l = first_waiting l.standing-iterator ≡ first_waiting l.fn.self.tickets
