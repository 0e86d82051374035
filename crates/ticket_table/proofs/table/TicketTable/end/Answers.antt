use Rattle.std.proofs.Common.{◌∙◌, ap, sym, subst}
use Rattle.std.specs.Map.{values_of}
use Rattle.ticket_table.specs.Tickets.{AreInOrder, IsKept, TicketTable, without_ticket}
use Rattle.ticket_table.proofs.TicketEntries.{numbered_removed, removed}
use Rattle.ticket_table.proofs.TicketOrders.{order_without}
use Rattle.ticket_table.proofs.table.TicketTable.end.Goals as goal

pub invariant_of-self : goal.invariant_of-self
invariant_of-self c =
    let kept = c.self.invariant in
    let tickets = removed c.args.id _ kept.numbered in
    subst (IsKept c.self.inside.last) (sym c.shift_remove.ensures.entries) (record {
      numbered = numbered_removed _ _ kept.numbered;
      order = subst (AreInOrder c.self.inside.last) (sym tickets) (order_without c.args.id c.self.inside.last _ kept.order);
    })

pub returns : goal.returns
returns c =
    let tickets = ap values_of c.shift_remove.ensures.entries ∙ removed c.args.id _ c.self.invariant.numbered in
    ap (λ ts. record { tickets = ts; last = c.self.inside.last }) tickets ∙ ap (λ (t : TicketTable). record t { tickets = without_ticket t.tickets c.args.id }) c.self.view_is
