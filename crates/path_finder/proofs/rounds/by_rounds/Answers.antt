use Rattle.std.proofs.Common.{◌≡◌, length, subst, arith}
use Rattle.std.proofs.lemmas.Grind.{common_steps}
use Rattle.path_finder.specs.Walks.{InRange}
use Rattle.path_finder.proofs.Certificates.{has_metrics, in_range}
use Rattle.path_finder.proofs.rounds.by_rounds.Goals as goal

pub from_first-requires-clause-metrics : goal.from_first-requires-clause-metrics
from_first-requires-clause-metrics c = has_metrics c.args.query.now.topology.now.nodes c.links.result.now c.links.ensures.sound

pub from_first-requires-clause-links : goal.from_first-requires-clause-links
from_first-requires-clause-links c =
    let size : c.args.query.now.topology.now.nodes ≡ length c.deref.result.now = grind (arith, common_steps) in
    subst (InRange c.links.result.now) size (in_range c.args.query.now.topology.now.nodes c.links.result.now c.links.ensures.sound)
