use Rattle.std.proofs.Common.{◌≡◌, map, take}
use Rattle.std.specs.Prelude.{filter}
use Rattle.pce_seen.specs.Grants.{deletion_of, is_deletion_asked}
use Rattle.pce_seen.proofs.grants.deletions_of.Given as goal

abbrev pub invariant-loop-known : goal.invariant-loop-known
invariant-loop-known l = l.deletions.items ≡ map deletion_of (filter (is_deletion_asked l.peer) (take l.known-index l.records))
