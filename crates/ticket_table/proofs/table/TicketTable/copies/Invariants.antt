use Rattle.std.proofs.Common.{◌≡◌, ◌++◌}
use Rattle.ticket_table.proofs.table.TicketTable.copies.Given as goal

-- the copies, followed by the tickets that are still to be copied, are all tickets
abbrev pub invariant-loop-standing : goal.invariant-loop-standing
invariant-loop-standing l = l.copies.items ++ l.standing-iterator ≡ l.self.tickets
