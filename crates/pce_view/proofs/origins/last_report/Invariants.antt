use Rattle.std.proofs.Common.{◌≡◌}
use Rattle.pce_view.specs.Origins.{last_below, last_report, reports_at}
use Rattle.pce_view.proofs.origins.last_report.Given as goal

-- what is looked for is the last of the steps before this place
abbrev pub invariant-loop-place : goal.invariant-loop-place
invariant-loop-place l = last_below (reports_at l.id l.path l.steps) l.place ≡ last_report l.id l.path l.steps
