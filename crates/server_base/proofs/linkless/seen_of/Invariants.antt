use Rattle.std.proofs.Common.{◌≡◌, map, take}
use Rattle.std.specs.Prelude.{filter}
use Rattle.server_base.specs.Linkless.{is_linkless, seen_linkless}
use Rattle.server_base.proofs.linkless.seen_of.Given as goal

abbrev pub invariant-loop-path : goal.invariant-loop-path
invariant-loop-path l = l.seen.items ≡ map (seen_linkless l.state) (filter is_linkless (take l.path-index l.paths))
