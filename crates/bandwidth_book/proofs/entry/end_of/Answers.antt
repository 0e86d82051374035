use Rattle.std.proofs.Common.{◌≡◌, true, false, subst, ◌<◌, ◌≤◌, ◌+◌, ◌-◌, ◌/◌, length, sym, arith}
use Rattle.bandwidth_book.specs.Reservation.{Reservation, end_in, is_before}
use Rattle.bandwidth_book.proofs.Order.{after_end, before_end}
use Rattle.bandwidth_book.proofs.entry.end_of.Goals as goal

pub loop-low-preserved-then-is_before : goal.loop-low-preserved-then-is_before
loop-low-preserved-then-is_before c =
    let middle = c.loop-low.low + (c.loop-low.high - c.loop-low.low) / 2 in
    let below : middle < length c.args.held.now = grind arith in
    let first : end_in c.args.one.now c.args.held.now ≤ middle = before_end c.args.one.now c.index-held-middle.result c.args.held.now middle below (subst (λ (h : Reservation). is_before c.args.one.now h ≡ true) c.index-held-middle.is (sym c.if-is_before.ensures)) in
    record { after = c.loop-low.invariant.after; before = first; within = omega (arith, below) }

pub loop-low-preserved : goal.loop-low-preserved
loop-low-preserved c =
    let middle = c.loop-low.low + (c.loop-low.high - c.loop-low.low) / 2 in
    let below : middle < length c.args.held.now = grind arith in
    let last : middle < end_in c.args.one.now c.args.held.now = after_end c.args.one.now c.index-held-middle.result c.args.held.now middle c.requires.order below (subst (λ (h : Reservation). is_before c.args.one.now h ≡ false) c.index-held-middle.is (sym c.if-is_before.ensures)) in
    record { after = omega (arith, last); before = c.loop-low.invariant.before; within = c.loop-low.invariant.within }
