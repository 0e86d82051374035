use Rattle.std.proofs.Common.{◌≡◌, ◌<◌, IfSome, refl, ◌∙◌, ap, sym, subst}
use Rattle.std.specs.Map.{set_value, values_of}
use Rattle.std.specs.Option.{option_copied_mut}
use Rattle.ticket_table.specs.Tickets.{AreInOrder, TicketTable, is_ticket, put_back, ticket_at, waiting_again}
use Rattle.ticket_table.proofs.TicketEntries.{found, numbered_written, unwritten, written}
use Rattle.ticket_table.proofs.TicketOrders.{order_put_back}
use Rattle.ticket_table.proofs.table.TicketTable.put_back.Goals as goal
use Rattle.ticket_table.proofs.table.TicketTable.put_back.Goals.{in-Some, in_default}

pub invariant_of-self : goal.invariant_of-self
invariant_of-self c =
    elim c.match-get_mut.branch [
      | in-Some w ↦
          let kept = c.self.invariant in
          let there = sym (ap option_copied_mut w.in-Some.is) ∙ c.get_mut.ensures.value in
          let entries = ap (λ i. i.map.entries) w.self-inside-is ∙ (c.get_mut.follows.holds w.wait_again.new.self).0 ∙ ap (set_value _ c.self.inside.map.entries) w.wait_again.ensures in
          let few = subst (λ (t : TicketTable). IfSome (ticket_at t.tickets c.args.id) (λ u. u.tries < 4)) (sym c.self.view_is) c.requires in
          let tickets = written waiting_again _ c.args.id _ kept.numbered (subst (λ o. IfSome o (λ t. waiting_again w.in-Some.standing.now ≡ waiting_again t)) there refl) in
          let last = ap (λ i. i.last) w.self-inside-is in
          rw (last, entries) (record {
            numbered = numbered_written _ _ _ kept.numbered (subst (λ o. IfSome o (λ t. w.in-Some.standing.now.id ≡ t.id)) there refl);
            order = subst (AreInOrder c.self.inside.last) (sym tickets) (order_put_back c.args.id c.self.inside.last _ few kept.order);
          })
      | in_default w ↦
          let entries = ap (λ i. i.map.entries) w.self-inside-is ∙ ap (λ m. m.entries) c.get_mut.follows.holds-at-none in
          let last = ap (λ i. i.last) w.self-inside-is in
          rw (last, entries) c.self.invariant
    ]

pub returns : goal.returns
returns c =
    elim c.match-get_mut.branch [
      | in-Some w ↦
          let there = sym (ap option_copied_mut w.in-Some.is) ∙ c.get_mut.ensures.value in
          let entries = ap (λ i. i.map.entries) w.self-inside-is ∙ (c.get_mut.follows.holds w.wait_again.new.self).0 ∙ ap (set_value _ c.self.inside.map.entries) w.wait_again.ensures in
          let last = ap (λ i. i.last) w.self-inside-is in
          let tickets = ap values_of entries ∙ written waiting_again _ c.args.id _ c.self.invariant.numbered (subst (λ o. IfSome o (λ t. waiting_again w.in-Some.standing.now ≡ waiting_again t)) there refl) in
          (λ j. record { tickets = tickets j; last = last j }) ∙ ap (λ (t : TicketTable). record t { tickets = put_back t.tickets c.args.id }) c.self.view_is
      | in_default w ↦
          let none = sym (found c.args.id _ c.self.invariant.numbered) ∙ sym c.get_mut.ensures.value ∙ ap option_copied_mut w.in_default.is in
          let entries = ap (λ i. i.map.entries) w.self-inside-is ∙ ap (λ m. m.entries) c.get_mut.follows.holds-at-none in
          let last = ap (λ i. i.last) w.self-inside-is in
          let tickets = ap values_of entries ∙ sym (unwritten (is_ticket c.args.id) waiting_again _ none) in
          (λ j. record { tickets = tickets j; last = last j }) ∙ ap (λ (t : TicketTable). record t { tickets = put_back t.tickets c.args.id }) c.self.view_is
    ]
