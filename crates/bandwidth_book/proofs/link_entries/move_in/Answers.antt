use Rattle.std.proofs.Common.{◌≡◌, ◌≤◌, ◌+◌, false, slice_index, max, sym, ap, ◌∙◌, arith, rules}
use Rattle.bandwidth_book.specs.Reservation.{changes_held, most}
use Rattle.bandwidth_book.proofs.Moved.{held_stays, most_moved}
use Rattle.bandwidth_book.proofs.link_entries.move_in.Goals as goal

pub exchange-requires-clause-small : goal.exchange-requires-clause-small
exchange-requires-clause-small c = λ p h.
    let m : most c.move_one-moved.new.self.held p ≤ max c.args.held.bandwidth (most c.args.entry.now.held p) = rw c.move_one-moved.ensures.held (most_moved c.args.op c.args.held c.args.entry.now.held p) in
    let a = c.maxima.ensures p h in
    let one = c.requires.below in
    let w = c.requires.within p h in
    let t = c.requires.small p h in
    omega (arith, m, a, one, w, t)

pub returns-then-not-changes_held-clause-sums : goal.returns-then-not-changes_held-clause-sums
returns-then-not-changes_held-clause-sums c = λ p h.
    let fixed : changes_held c.args.op ≡ false = search rules in
    ap (λ hs. slice_index c.args.sums.now p + most hs p) (sym (c.move_one.ensures.held ∙ held_stays c.args.op c.args.held c.args.entry.now.held fixed))
