use Rattle.std.proofs.Common.{◌<◌, ℕ}
use Rattle.path_finder.specs.Walks.{IsRelaxedAt}
use Rattle.path_finder.proofs.certificate.is_relaxed.Given as goal

abbrev pub invariant-loop-node : goal.invariant-loop-node
invariant-loop-node l = (v : ℕ) → v < l.node → IsRelaxedAt l.query l.query.topology.now.links l.labels l.middle v
