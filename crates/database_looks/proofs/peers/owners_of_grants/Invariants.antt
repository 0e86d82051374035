use Rattle.std.proofs.Common.{◌≡◌, map, take, None}
use Rattle.std.specs.Prelude.{filter}
use Rattle.pce_seen.specs.Grants.{is_grant_asked}
use Rattle.database_looks.specs.Looks.{owner_of}
use Rattle.database_looks.proofs.peers.owners_of_grants.Given as goal

abbrev pub invariant-loop-path : goal.invariant-loop-path
invariant-loop-path l = l.owners.items ≡ map owner_of (filter (is_grant_asked None) (take l.path-index l.paths))
