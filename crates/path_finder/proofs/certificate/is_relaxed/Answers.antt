use Rattle.std.proofs.Common.{rules}
use Rattle.path_finder.specs.Walks.{IsRelaxedAt}
use Rattle.path_finder.proofs.Certificates.{below_next}
use Rattle.path_finder.proofs.certificate.is_relaxed.Goals as goal

pub loop-node-preserved : goal.loop-node-preserved
loop-node-preserved c =
    let q = c.args.query.now in
    below_next (IsRelaxedAt q q.topology.now.links c.args.labels.now c.args.middle) c.loop-node.node c.loop-node.invariant (search rules)
