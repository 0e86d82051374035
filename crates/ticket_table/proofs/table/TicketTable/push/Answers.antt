use Rattle.std.proofs.Common.{◌≡◌, ◌<◌, ◌∷◌, ◌++◌, [], ◌∙◌, ap, sym, subst}
use Rattle.std.specs.Map.{values_of}
use Rattle.indexmap.specs.IndexMap.{insert_entry}
use Rattle.ticket_table.specs.Tickets.{AreInOrder, IsKept, TicketTable}
use Rattle.ticket_table.proofs.TicketEntries.{numbered_pushed, pushed, pushed_values}
use Rattle.ticket_table.proofs.TicketOrders.{order_pushed}
use Rattle.ticket_table.proofs.table.TicketTable.push.Goals as goal

pub invariant_of-self-2 : goal.invariant_of-self-2
invariant_of-self-2 c =
    let kept = c.self.invariant in
    let above : c.self.inside.last < c.args.ticket.id = subst (λ (t : TicketTable). t.last < c.args.ticket.id) (sym c.self.view_is) c.requires.number in
    let entries = c.in_ok-insert.ensures.entries ∙ ap (insert_entry _ c.self.inside.map.entries c.args.ticket.id) c.in_ok-standing.ensures ∙ pushed c.args.ticket _ _ above kept.numbered kept.order.given in
    subst (IsKept c.args.ticket.id) (sym entries) (record {
      numbered = numbered_pushed c.args.ticket _ kept.numbered;
      order = subst (AreInOrder c.args.ticket.id) (sym (pushed_values c.args.ticket c.self.inside.map.entries)) (order_pushed c.args.ticket c.self.inside.last _ above c.requires.tries kept.order);
    })

pub returns-clause-added : goal.returns-clause-added
returns-clause-added c =
    let above : c.self.inside.last < c.args.ticket.id = subst (λ (t : TicketTable). t.last < c.args.ticket.id) (sym c.self.view_is) c.requires.number in
    let tickets = ap values_of (c.in_ok-insert.ensures.entries ∙ ap (insert_entry _ c.self.inside.map.entries c.args.ticket.id) c.in_ok-standing.ensures ∙ pushed c.args.ticket _ _ above c.self.invariant.numbered c.self.invariant.order.given) ∙ pushed_values c.args.ticket _ in
    ap (λ ts. record { tickets = ts; last = c.args.ticket.id }) tickets ∙ ap (λ (t : TicketTable). record { tickets = t.tickets ++ c.args.ticket ∷ []; last = c.args.ticket.id }) c.self.view_is
