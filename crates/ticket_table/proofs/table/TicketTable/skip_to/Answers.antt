use Rattle.std.proofs.Common.{◌≤◌, ap, sym, subst}
use Rattle.ticket_table.specs.Tickets.{TicketTable}
use Rattle.ticket_table.proofs.TicketOrders.{order_skipped}
use Rattle.ticket_table.proofs.table.TicketTable.skip_to.Goals as goal

pub invariant_of-self : goal.invariant_of-self
invariant_of-self c =
    let kept = c.self.invariant in
    let more = subst (λ (t : TicketTable). t.last ≤ c.args.last) (sym c.self.view_is) c.requires in
    record {
      numbered = kept.numbered;
      order = order_skipped c.self.inside.last c.args.last _ more kept.order;
    }
