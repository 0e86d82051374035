use Rattle.std.proofs.Common.{◌≡◌, ◌+◌, drop, slice_index, take, arith}
use Rattle.bandwidth_book.specs.Reservation.{most}
use Rattle.bandwidth_book.proofs.Counts.{most_append}
use Rattle.bandwidth_book.proofs.Gaps.{order_before, order_behind}
use Rattle.bandwidth_book.proofs.entry.maxima_around.Goals as goal

pub maxima_of-maxima-requires : goal.maxima_of-maxima-requires
maxima_of-maxima-requires c = rw c.back.ensures.items (order_behind (take c.args.gap c.args.items.now) (drop (c.args.gap + c.args.gone) c.args.items.now) c.requires.order)

pub maxima_of-requires : goal.maxima_of-requires
maxima_of-requires c = rw c.front.ensures.items (order_before (take c.args.gap c.args.items.now) (drop (c.args.gap + c.args.gone) c.args.items.now) c.requires.order)

pub returns-then-gap-gt0 : goal.returns-then-gap-gt0
returns-then-gap-gt0 c = λ p h.
    let front = take c.args.gap c.args.items.now in
    let back = drop (c.args.gap + c.args.gone) c.args.items.now in
    let first : slice_index c.maxima_of.result p ≡ most front p = rw c.front.ensures.items at (c.maxima_of.ensures p h) in
    let rest : slice_index c.maxima_of-maxima.result p ≡ most back p = rw c.back.ensures.items at (c.maxima_of-maxima.ensures p h) in
    let both = c.raise_to.ensures p h in
    let whole = most_append front back p in
    omega (arith, first, rest, both, whole)
