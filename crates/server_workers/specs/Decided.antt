-- What the log says about the ticket on which a worker worked.
use Rattle.std.specs.Prelude.{◌≡◌, ◌==◌, ◌-◌, ℕ, Bool, false, List, [], length, drop, find, Option, Some, None, IfSome}
use Rattle.history_seats.specs.declared.receipt.Receipt.{Receipt}
use Rattle.path_finder.specs.declared.found.Found.{Found}
use Rattle.path_looks.specs.Paths.{IsPathAnswer}
use Rattle.path_looks.specs.declared.answer.Obstacle.{Obstacle}
use Rattle.path_looks.specs.declared.answer.PathAnswer.TheVariants.{Blocked}
use Rattle.server_log.specs.Decisions.{offered, verdict}
use Rattle.server_log.specs.Paths.{front_of}
use Rattle.server_log.specs.declared.decisions.Decision.{Decision}
use Rattle.server_log.specs.declared.shown_links.ShownLinks.{ShownLinks}
use Rattle.server_log.specs.declared.shown_name.ShownName.{ShownName}
use Rattle.step_core.specs.declared.event.Event.{Event}
use Rattle.step_core.specs.declared.event.Event.TheVariants as event
use Rattle.step_core.specs.declared.event.Reply.{Reply}
use Rattle.step_core.specs.declared.job.Job.{Job}

abbrev pub commits : ℕ → Event → Bool
commits ticket (event.Commit number offer) = number == ticket
commits ticket other = false

abbrev pub offered_by : Option Receipt → ShownLinks
offered_by None = front_of []
offered_by (Some receipt) = offered receipt.event

-- the links that a ticket's commit offered: the commit is one of the last two of these steps
abbrev pub offered_in : List Receipt → ℕ → ShownLinks
offered_in receipts ticket = offered_by (find (λ r. commits ticket r.event) (drop (length receipts - 2) receipts))

-- on the job's network there is no path, and there is one if the obstacle is ignored
abbrev pub IsInTheWay : Job → Obstacle → Type 0
IsInTheWay job by = (path : Found) × IsPathAnswer job.snapshot (job.ticket).constraints (Blocked by path)

-- the verdict on the job's ticket, with the links that its commit offered and an obstacle that prevents its path
abbrev pub IsDecided : Job → List Receipt → Reply → ShownName → Option Decision → Type 0
IsDecided job receipts reply name result =
    (why : Option Obstacle) × IfSome why (IsInTheWay job) × (result ≡ verdict job.ticket (offered_in receipts (job.ticket).id) reply name why)
