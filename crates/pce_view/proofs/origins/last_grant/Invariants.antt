use Rattle.std.proofs.Common.{◌≡◌}
use Rattle.pce_view.specs.Origins.{last_below, last_grant, grants_at}
use Rattle.pce_view.proofs.origins.last_grant.Given as goal

-- what is looked for is the last of the steps before this place
abbrev pub invariant-loop-place : goal.invariant-loop-place
invariant-loop-place l = last_below (grants_at l.srp l.path l.steps) l.place ≡ last_grant l.srp l.path l.steps
