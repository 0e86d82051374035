use Rattle.std.proofs.Common.{◌≡◌, ◌++◌, drop}
use Rattle.path_looks.specs.Paths.{full_links}
use Rattle.path_looks.proofs.full.full_links.Given as goal

-- what was found and what is found among the remaining links make the whole
abbrev pub invariant-loop-link : goal.invariant-loop-link
invariant-loop-link l = l.full.items ++ full_links l.snapshot.unreserved l.wanted (drop l.link-index l.links) ≡ full_links l.snapshot.unreserved l.wanted l.links
