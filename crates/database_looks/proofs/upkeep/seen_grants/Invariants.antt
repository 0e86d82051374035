use Rattle.std.proofs.Common.{◌≡◌, map, take, None}
use Rattle.std.specs.Prelude.{filter}
use Rattle.pce_seen.specs.Grants.{is_grant_asked}
use Rattle.database_looks.specs.Grants.{seen_grant}
use Rattle.database_looks.proofs.upkeep.seen_grants.Given as goal

abbrev pub invariant-loop-path : goal.invariant-loop-path
invariant-loop-path l = l.seen.items ≡ map (seen_grant l.lsps.content.paths) (filter (is_grant_asked None) (take l.path-index l.paths))
