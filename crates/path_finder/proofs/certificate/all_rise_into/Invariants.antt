use Rattle.std.proofs.Common.{◌<◌, ℕ, slice_index_or}
use Rattle.te_snapshot.specs.declared.outgoing.Outgoing.{Outgoing}
use Rattle.path_finder.specs.Walks.{RisesInto}
use Rattle.path_finder.proofs.certificate.all_rise_into.Given as goal

abbrev pub invariant-loop-arc : goal.invariant-loop-arc
invariant-loop-arc l = (k : ℕ) (d : Outgoing) → k < l.arc-index → RisesInto l.query l.labels l.label (slice_index_or l.arcs k d)
