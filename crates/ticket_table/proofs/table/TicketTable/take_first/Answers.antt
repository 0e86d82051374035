use Rattle.std.proofs.Common.{◌≡◌, true≢false, Some, IfSome, is_some, refl, ◌∙◌, ap, sym, subst, rules}
use Rattle.std.specs.Map.{set_value, values_of}
use Rattle.std.specs.Option.{option_copied_mut}
use Rattle.ticket_table.specs.Tickets.{AreInOrder, TicketTable, first_waiting, is_waiting, searched_for, take_first}
use Rattle.ticket_table.proofs.TicketEntries.{numbered_written, take_written, there_waiting, unwritten}
use Rattle.ticket_table.proofs.TicketOrders.{order_taken}
use Rattle.ticket_table.proofs.table.TicketTable.take_first.Goals as goal
use Rattle.ticket_table.proofs.table.TicketTable.take_first.Goals.{in-Some-get_mut, in_default-get_mut}

pub returns-in_default : goal.returns-in_default
returns-in_default c =
    ap (λ ts. record { tickets = ts; last = c.args.self.now.last }) (sym (unwritten is_waiting (searched_for c.args.changes) c.args.self.now.tickets (sym c.first_waiting.ensures.first ∙ search rules)))

pub invariant_of-self : goal.invariant_of-self
invariant_of-self c =
    let kept = c.self.invariant in
    let waits : first_waiting c.args.self.now.tickets ≡ Some c.in-Some.waiting.now = search rules in
    let first = subst (λ (t : TicketTable). first_waiting t.tickets ≡ Some c.in-Some.waiting.now) (sym c.self.view_is) waits in
    elim c.match-get_mut.branch [
      | in-Some-get_mut w ↦
          let there = sym (ap option_copied_mut w.in-Some-get_mut.is) ∙ c.get_mut.ensures.value in
          let entries = ap (λ i. i.map.entries) w.self-inside-is ∙ (c.get_mut.follows.holds w.begin_search.new.self).0 ∙ ap (set_value _ c.self.inside.map.entries) w.begin_search.ensures in
          let last = ap (λ i. i.last) w.self-inside-is in
          let tickets = take_written c.args.changes c.self.inside.map.entries c.in-Some.waiting.now w.in-Some-get_mut.standing.now kept.numbered kept.order.rising first there in
          rw (last, entries) (record {
            numbered = numbered_written _ _ _ kept.numbered (subst (λ o. IfSome o (λ t. w.in-Some-get_mut.standing.now.id ≡ t.id)) there refl);
            order = subst (AreInOrder c.self.inside.last) (sym tickets) (order_taken c.args.changes c.self.inside.last _ kept.order);
          })
      | in_default-get_mut w ↦
          let entries = ap (λ i. i.map.entries) w.self-inside-is ∙ ap (λ m. m.entries) c.get_mut.follows.holds-at-none in
          let last = ap (λ i. i.last) w.self-inside-is in
          rw (last, entries) kept
    ]

pub returns : goal.returns
returns c =
    let waits : first_waiting c.args.self.now.tickets ≡ Some c.in-Some.waiting.now = search rules in
    let first = subst (λ (t : TicketTable). first_waiting t.tickets ≡ Some c.in-Some.waiting.now) (sym c.self.view_is) waits in
    elim c.match-get_mut.branch [
      | in-Some-get_mut w ↦
          let there = sym (ap option_copied_mut w.in-Some-get_mut.is) ∙ c.get_mut.ensures.value in
          let entries = ap (λ i. i.map.entries) w.self-inside-is ∙ (c.get_mut.follows.holds w.begin_search.new.self).0 ∙ ap (set_value _ c.self.inside.map.entries) w.begin_search.ensures in
          let last = ap (λ i. i.last) w.self-inside-is in
          let tickets = ap values_of entries ∙ take_written c.args.changes c.self.inside.map.entries c.in-Some.waiting.now w.in-Some-get_mut.standing.now c.self.invariant.numbered c.self.invariant.order.rising first there in
          (λ j. record { tickets = tickets j; last = last j }) ∙ ap (λ (t : TicketTable). record t { tickets = take_first t.tickets c.args.changes }) c.self.view_is
      | in_default-get_mut w ↦
          absurd (true≢false (sym (ap is_some (sym (ap option_copied_mut w.in_default-get_mut.is) ∙ c.get_mut.ensures.value ∙ there_waiting c.self.inside.map.entries c.in-Some.waiting.now c.self.invariant.numbered c.self.invariant.order.rising first))))
    ]
