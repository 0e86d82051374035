use Rattle.std.proofs.Common.{◌≤◌, arith}
use Rattle.bandwidth_book.proofs.Runs.{all_counted}
use Rattle.bandwidth_book.proofs.entry.count_to.Goals as goal

pub returns-then-hold-from-2-clause-count : goal.returns-then-hold-from-2-clause-count
returns-then-hold-from-2-clause-count c =
    let last : c.index-held-count.result.hold ≤ c.args.priority = (let low = c.if-hold-from-2.true in let hold = c.hold-else-hold-from.ensures in let from = c.from-else-hold-from.ensures in omega (arith, low, hold, from)) in
    all_counted c.args.priority c.index-held-count.result c.args.held.now c.requires.order (rw c.index-held-count.is at last)
