use Rattle.std.proofs.Common.{◌∙◌, Some, ap, sym}
use Rattle.std.specs.Option.{option_copied}
use Rattle.ticket_table.specs.Tickets.{TicketTable, ticket_at}
use Rattle.ticket_table.proofs.TicketEntries.{found}
use Rattle.ticket_table.proofs.table.TicketTable.find.Goals as goal

pub returns-in-Some : goal.returns-in-Some
returns-in-Some c =
    ap Some c.ticket.ensures ∙ sym (ap option_copied c.in-Some.is) ∙ c.get.ensures.value ∙ found c.args.id _ c.self.invariant.numbered ∙ ap (λ (t : TicketTable). ticket_at t.tickets c.args.id) c.self.view_is

pub returns-in-None : goal.returns-in-None
returns-in-None c =
    sym (ap option_copied c.in-None.is) ∙ c.get.ensures.value ∙ found c.args.id _ c.self.invariant.numbered ∙ ap (λ (t : TicketTable). ticket_at t.tickets c.args.id) c.self.view_is
