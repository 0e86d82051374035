use Rattle.std.proofs.Common.{◌<◌, length, ap, arith}
use Rattle.bandwidth_book.specs.Entries.{kept}
use Rattle.bandwidth_book.specs.Reservation.{most}
use Rattle.bandwidth_book.proofs.LinkLists.{kept_elsewhere, moved_row, sum_here}
use Rattle.bandwidth_book.proofs.link_entries.LinkEntries.move_on.Goals as goal

pub move_at-requires-clause-small : goal.move_at-requires-clause-small
move_at-requires-clause-small c = λ p h.
    let less : c.args.link < length c.args.sums.now = (let n = c.if-link-sums.false in omega (arith, n)) in
    let s = c.requires.small c.args.link p less h in
    let e = sum_here c.args.sums.now c.args.link p less in
    omega (arith, s, e)

pub returns-in-Some-clause-sums : goal.returns-in-Some-clause-sums
returns-in-Some-clause-sums c = λ l p n h.
    let less : c.args.link < length c.args.sums.now = (let m = c.if-link-sums.false in omega (arith, m)) in
    rw (← c.self.view_is)
    (moved_row c.args.sums.now c.args.link c.move_at.new.sums p (λ k. most (kept k c.self.inside.entries.items) p) (λ k. most (kept k c.move_at.new.entries.items) p) less (c.move_at.ensures.sums p h)
    (λ k other. ap (λ hs. most hs p) (kept_elsewhere c.args.op c.args.link k c.args.held _ _ other (c.move_at.ensures.moved k))) l)
