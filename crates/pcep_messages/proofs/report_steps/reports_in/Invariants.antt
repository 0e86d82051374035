use Rattle.std.proofs.Common.{◌≡◌, false, length}
use Rattle.pcep_messages.specs.Reports.{report_body}
use Rattle.pcep_messages.specs.ReportSteps.{after, finished, IsEmptyInFront}
use Rattle.pcep_messages.proofs.Running.{rest_gives}
use Rattle.pcep_messages.proofs.report_steps.reports_in.Given as goal

-- what was read, with the rest, gives the reports of all; before the first item nothing of one was read
abbrev pub invariant-loop-front : goal.invariant-loop-front
invariant-loop-front l = (rest_gives after finished false (record { reports = l.reports.items; item = l.item; place = l.place }) l.rest ≡ report_body l.body) × IsEmptyInFront l.place l.item

abbrev pub decreases-loop-front : goal.decreases-loop-front
decreases-loop-front l = length l.rest
