use Rattle.std.proofs.Common.{◌≡◌, ◌<◌, ◌-◌, suc, true, false, ℕ, get_or, sym, subst, ◌∙◌, arith}
use Rattle.bandwidth_book.specs.Reservation.{Reservation}
use Rattle.bandwidth_book.specs.Reservation.{around, end_in, same_held, without_one}
use Rattle.bandwidth_book.proofs.Order.{none_before_end, order_without_one, remove_before_end}
use Rattle.bandwidth_book.proofs.entry.take_held.Goals as goal
use Rattle.bandwidth_book.proofs.entry.take_held.Goals.{After-take_at, else-end-gt0-via-then-end-gt0+else-is_same_held, else-end-gt0-via-else-end-gt0}

removed : (c : After-take_at) → around c.take_at.new.gap c.take_at.new.gone c.take_at.new.items.items ≡ without_one c.args.held (around c.args.gap.now c.args.gone.now c.args.items.now.items)
removed c =
    let hs = around c.args.gap.now c.args.gone.now c.args.items.now.items in
    let end : c.end_around-end.result ≡ end_in c.args.held hs = rw c.as_slice.ensures at c.end_around-end.ensures.end in
    let some : 0 < c.end_around-end.result = c.if-end-gt0.true in
    let last : suc (c.end_around-end.result - 1) ≡ end_in c.args.held hs = omega (arith, end, some) in
    let one : c.one_at.result ≡ get_or hs (c.end_around-end.result - 1) c.one_at.result = rw c.as_slice-then-end-gt0.ensures at c.one_at.ensures in
    c.take_at.ensures.around
    ∙ remove_before_end c.args.held c.one_at.result hs (c.end_around-end.result - 1) last c.requires.order (subst (λ (x : Reservation). same_held c.args.held x ≡ true) one (sym c.if-is_same_held.ensures))

pub returns-then-is_same_held-clause-items : goal.returns-then-is_same_held-clause-items
returns-then-is_same_held-clause-items c = removed c

pub returns-then-is_same_held-clause-order : goal.returns-then-is_same_held-clause-order
returns-then-is_same_held-clause-order c = rw (removed c) (order_without_one c.args.held (around c.args.gap.now c.args.gone.now c.args.items.now.items) c.requires.order)

pub returns-else-end-gt0-clause-items : goal.returns-else-end-gt0-clause-items
returns-else-end-gt0-clause-items c =
    let hs = around c.args.gap.now c.args.gone.now c.args.items.now.items in
    let end : c.end_around-end.result ≡ end_in c.args.held hs = rw c.as_slice.ensures at c.end_around-end.ensures.end in
    elim c.else-end-gt0.branch [
      | else-end-gt0-via-then-end-gt0+else-is_same_held w ↦
          none_before_end c.args.held w.one_at.result hs c.end_around-end.result end c.requires.order
          (λ k is.
          let k_is : c.end_around-end.result - 1 ≡ k = omega (arith, is) in
          let one : w.one_at.result ≡ get_or hs (c.end_around-end.result - 1) w.one_at.result = rw w.as_slice-then-end-gt0.ensures at w.one_at.ensures in
          subst (λ (m : ℕ). same_held c.args.held (get_or hs m w.one_at.result) ≡ false) k_is
          (subst (λ (x : Reservation). same_held c.args.held x ≡ false) one (sym w.if-is_same_held.ensures)))
      | else-end-gt0-via-else-end-gt0 w ↦
          none_before_end c.args.held c.args.held hs c.end_around-end.result end c.requires.order
          (λ k is. absurd (omega (arith, is, w.if-end-gt0.false)))
    ]
