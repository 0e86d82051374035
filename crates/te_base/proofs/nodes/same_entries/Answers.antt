use Rattle.std.proofs.Common.{rules}
use Rattle.te_base.proofs.Same.{same_here}
use Rattle.te_base.proofs.nodes.same_entries.Goals as goal

pub returns-then-not-same_at : goal.returns-then-not-same_at
returns-then-not-same_at c =
    let xs = c.args.ids.now.entries in
    let ys = c.args.others.now.entries in
    let here = same_here xs ys c.loop-number.number c.same_at.result (search rules) (search rules) c.same_at.ensures in
    search (rules, here, c.loop-number.invariant)

pub loop-number-preserved : goal.loop-number-preserved
loop-number-preserved c =
    let xs = c.args.ids.now.entries in
    let ys = c.args.others.now.entries in
    let here = same_here xs ys c.loop-number.number c.same_at.result (search rules) (search rules) c.same_at.ensures in
    search (rules, here, c.loop-number.invariant)
