use Rattle.std.proofs.Common.{◌≡◌, ◌+◌, ◌++◌, ◌∷◌, [], take}
use Rattle.database_looks.proofs.Tables.{take_next}
use Rattle.database_looks.proofs.nodes.nodes_of.Goals as goal

pub loop-number-preserved : goal.loop-number-preserved
loop-number-preserved c =
    let nodes = c.args.te.now.nodes in
    let n = c.loop-number.number in
    let node = c.in_ok-node_at.field-0 in
    let next : take (n + 1) nodes ≡ take n nodes ++ node ∷ [] = take_next nodes n node c.in_ok-node_at.ensures in
    cc (c.in_ok-push.ensures.items, c.loop-number.invariant, next)
