use Rattle.std.proofs.Common.{◌≡◌, ◌<◌, ◌≤◌, ◌+◌, drop, length, take, sym, ◌∙◌, arith}
use Rattle.bandwidth_book.specs.Reservation.{end_in}
use Rattle.bandwidth_book.proofs.Gaps.{end_before, end_behind, order_before, order_behind}
use Rattle.bandwidth_book.proofs.entry.end_around.Goals as goal

pub ends_after-requires : goal.ends_after-requires
ends_after-requires c = rw c.front-before.ensures.items (order_before (take c.args.gap c.args.items.now) (drop (c.args.gap + c.args.gone) c.args.items.now) c.requires.order)

pub end_of-requires-clause-order : goal.end_of-requires-clause-order
end_of-requires-clause-order c = rw c.front-before.ensures.items (order_before (take c.args.gap c.args.items.now) (drop (c.args.gap + c.args.gone) c.args.items.now) c.requires.order)

pub end_near-requires : goal.end_near-requires
end_near-requires c = rw c.back.ensures.items (order_behind (take c.args.gap c.args.items.now) (drop (c.args.gap + c.args.gone) c.args.items.now) c.requires.order)

pub returns-then-ends_after-clause-end : goal.returns-then-ends_after-clause-end
returns-then-ends_after-clause-end c =
    let front = take c.args.gap c.args.items.now in
    let end : c.end_of.result ≡ end_in c.args.one.now front = rw c.front-before.ensures.items at c.end_of.ensures.end in
    let less : end_in c.args.one.now front < length front = rw c.front-before.ensures.items at (c.ends_after.ensures.after c.if-ends_after.true) in
    end ∙ sym (end_before c.args.one.now front (drop (c.args.gap + c.args.gone) c.args.items.now) less)

pub returns-else-ends_after-clause-end : goal.returns-else-ends_after-clause-end
returns-else-ends_after-clause-end c =
    let front = take c.args.gap c.args.items.now in
    let back = drop (c.args.gap + c.args.gone) c.args.items.now in
    let rest : c.end_near.result ≡ end_in c.args.one.now back = rw c.back.ensures.items at c.end_near.ensures.end in
    let long : length front ≡ c.args.gap = rw c.front-before.ensures.items at c.front-before.ensures.length in
    let all : length front ≤ end_in c.args.one.now front = rw c.front-before.ensures.items at (c.ends_after.ensures.before c.if-ends_after.false) in
    let whole = end_behind c.args.one.now front back all in
    omega (arith, whole, rest, long)
