use Rattle.std.proofs.Common.{◌≡◌, ◌++◌, drop}
use Rattle.server_operators.specs.Plans.{numbered}
use Rattle.server_operators.proofs.plan.numbered.Given as goal

-- the links so far and the remaining ones make the whole
abbrev pub invariant-loop-link : goal.invariant-loop-link
invariant-loop-link l = l.links.items ++ numbered l.link (drop l.link l.all) ≡ numbered 0 l.all
