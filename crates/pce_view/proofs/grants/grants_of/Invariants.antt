use Rattle.std.proofs.Common.{◌≡◌, map, take}
use Rattle.std.specs.Prelude.{filter}
use Rattle.pce_seen.specs.Grants.{is_grant_asked, known_grant}
use Rattle.pce_view.specs.Grants.{name_for}
use Rattle.pce_view.proofs.grants.grants_of.Given as goal

abbrev pub invariant-loop-path : goal.invariant-loop-path
invariant-loop-path l = l.grants.items ≡ map (known_grant (name_for l.state)) (filter (is_grant_asked l.peer) (take l.path-index l.paths))
