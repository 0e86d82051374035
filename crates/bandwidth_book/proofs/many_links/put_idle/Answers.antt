use Rattle.bandwidth_book.proofs.Between.{rising_between, same_between}
use Rattle.bandwidth_book.proofs.many_links.put_idle.Goals as goal

pub returns-then-is_next-clause-rising : goal.returns-then-is_next-clause-rising
returns-then-is_next-clause-rising c =
    let next = rw c.as_slice.ensures at (c.is_next.ensures.place c.if-is_next.true) in
    let none = rw c.as_slice.ensures at (c.is_next.ensures.none c.if-is_next.true) in
    rw c.push_reserved.ensures.items
    (rising_between c.args.joined.now.items c.args.rest.now (record { link = c.args.link; entry = c.new.result }) c.requires.rising next none)

pub returns-then-is_next-clause-same : goal.returns-then-is_next-clause-same
returns-then-is_next-clause-same c = λ l.
    let next = rw c.as_slice.ensures at (c.is_next.ensures.place c.if-is_next.true) in
    let none = rw c.as_slice.ensures at (c.is_next.ensures.none c.if-is_next.true) in
    rw c.push_reserved.ensures.items
    (same_between c.args.joined.now.items c.args.rest.now (record { link = c.args.link; entry = c.new.result }) next none c.new.ensures.held c.new.ensures.promised l)
