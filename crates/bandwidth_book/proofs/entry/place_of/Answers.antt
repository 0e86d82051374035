use Rattle.std.proofs.Common.{◌≡◌, true, false, subst, ◌<◌, ◌≤◌, ◌+◌, ◌-◌, ◌/◌, length, sym, arith}
use Rattle.bandwidth_book.specs.Reservation.{Reservation, is_before, place_in}
use Rattle.bandwidth_book.proofs.Order.{before_place, after_place}
use Rattle.bandwidth_book.proofs.entry.place_of.Goals as goal

pub loop-low-preserved-then-is_before : goal.loop-low-preserved-then-is_before
loop-low-preserved-then-is_before c =
    let middle = c.loop-low.low + (c.loop-low.high - c.loop-low.low) / 2 in
    let below : middle < length c.args.held.now = grind arith in
    let first : middle < place_in c.args.one.now c.args.held.now = before_place c.args.one.now c.index-held-middle.result c.args.held.now middle c.requires below (subst (λ (h : Reservation). is_before h c.args.one.now ≡ true) c.index-held-middle.is (sym c.if-is_before.ensures)) in
    record { after = omega (arith, first); before = c.loop-low.invariant.before; within = c.loop-low.invariant.within }

pub loop-low-preserved : goal.loop-low-preserved
loop-low-preserved c =
    let middle = c.loop-low.low + (c.loop-low.high - c.loop-low.low) / 2 in
    let below : middle < length c.args.held.now = grind arith in
    let last : place_in c.args.one.now c.args.held.now ≤ middle = after_place c.args.one.now c.index-held-middle.result c.args.held.now middle below (subst (λ (h : Reservation). is_before h c.args.one.now ≡ false) c.index-held-middle.is (sym c.if-is_before.ensures)) in
    record { after = c.loop-low.invariant.after; before = last; within = omega (arith, below) }
