use Rattle.std.proofs.Common.{◌≡◌, Some, subst, rules}
use Rattle.ticket_table.specs.Tickets.{AreRising, TicketTable, first_waiting}
use Rattle.ticket_table.proofs.TicketOrders.{least}
use Rattle.ticket_table.proofs.table.TicketTable.first_waiting.Goals as goal

pub returns-then-not-ticket-clause-least : goal.returns-then-not-ticket-clause-least
returns-then-not-ticket-clause-least c =
    let first : first_waiting c.args.self.now.tickets ≡ Some c.ticket-then-not-ticket.result.now = search rules in
    least c.args.self.now.tickets c.ticket-then-not-ticket.result.now (subst (λ (t : TicketTable). AreRising t.tickets) c.self.view_is c.self.invariant.order.rising) first
