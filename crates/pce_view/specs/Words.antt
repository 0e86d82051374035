-- Words for what is seen.
use Rattle.std.specs.Prelude.{ℕ, ◌==◌, Bool, true, false, List, [], codes, Option, Some, None, if◌then◌else◌}
use Rattle.commit_core.specs.declared.ticket.Purpose.{Purpose}
use Rattle.commit_core.specs.declared.ticket.Purpose.TheVariants.{Update, Initiate, Answer}
use Rattle.pce_seen.specs.declared.origins.Origin.{Origin}
use Rattle.pce_seen.specs.declared.origins.Origin.TheVariants as origin
use Rattle.pce_seen.specs.declared.steps.EventKind.{EventKind}
use Rattle.pce_seen.specs.declared.steps.EventKind.TheVariants as kind
use Rattle.path_looks.specs.declared.answer.Obstacle.{Obstacle}
use Rattle.path_looks.specs.declared.answer.Obstacle.TheVariants as obstacle
use Rattle.path_finder.specs.declared.found.Found.{Found}
use Rattle.path_looks.specs.declared.link_room.LinkRoom.{LinkRoom}
use Rattle.path_looks.specs.declared.answer.PathAnswer.{PathAnswer}
use Rattle.path_looks.specs.declared.answer.PathAnswer.TheVariants.{Path, Blocked, NoWay}
use Rattle.server_rules.specs.declared.path_word.Operational.{Operational}
use Rattle.server_rules.specs.declared.path_word.Operational.TheVariants as operational
use Rattle.pce_view.specs.declared.states.LspState.{LspState}
use Rattle.pce_view.specs.declared.states.LspState.TheVariants as state

-- what a ticket asks a path for
abbrev pub purpose_word : Purpose → List ℕ
purpose_word (Update plsp) = codes "update"
purpose_word (Initiate name constraints) = codes "initiate"
purpose_word (Answer request plsp constraints) = codes "answer"

abbrev pub purpose_plsp : Purpose → Option ℕ
purpose_plsp (Update plsp) = Some plsp
purpose_plsp (Initiate name constraints) = None
purpose_plsp (Answer request plsp constraints) = plsp

abbrev pub purpose_name : Purpose → Option (List ℕ)
purpose_name (Update plsp) = None
purpose_name (Initiate name constraints) = Some name
purpose_name (Answer request plsp constraints) = None

abbrev pub purpose_request : Purpose → Option ℕ
purpose_request (Update plsp) = None
purpose_request (Initiate name constraints) = None
purpose_request (Answer request plsp constraints) = Some request

abbrev pub event_word : EventKind → List ℕ
event_word kind.Up = codes "up"
event_word kind.Report = codes "report"
event_word kind.Marker = codes "marker"
event_word kind.Down = codes "down"
event_word kind.Expire = codes "expire"
event_word kind.Ask = codes "ask"
event_word kind.Take = codes "take"
event_word kind.Commit = codes "commit"
event_word kind.Drain = codes "drain"
event_word kind.Refused = codes "refused"
event_word kind.Return = codes "return"
event_word kind.Delete = codes "delete"
event_word kind.Reload = codes "reload"

abbrev pub obstacle_word : Obstacle → List ℕ
obstacle_word obstacle.Bandwidth = codes "bandwidth"
obstacle_word obstacle.Colours = codes "colours"
obstacle_word obstacle.Bounds = codes "bounds"
obstacle_word obstacle.Several = codes "several"

abbrev pub is_found : PathAnswer → Bool
is_found (Path found) = true
is_found (Blocked by found) = false
is_found NoWay = false

abbrev pub obstacle_of : PathAnswer → Option Obstacle
obstacle_of (Path found) = None
obstacle_of (Blocked by found) = Some by
obstacle_of NoWay = None

abbrev pub cost_in : PathAnswer → Option ℕ
cost_in (Path found) = Some found.cost
cost_in (Blocked by found) = Some found.cost
cost_in NoWay = None

abbrev pub links_in : PathAnswer → List ℕ
links_in (Path found) = found.links
links_in (Blocked by found) = found.links
links_in NoWay = []

abbrev pub link_in : Option LinkRoom → Option ℕ
link_in None = None
link_in (Some room) = Some room.link

-- by what a path came
abbrev pub origin_word : Origin → Option (List ℕ)
origin_word (origin.Report step) = Some (codes "report")
origin_word (origin.Grant step ticket) = Some (codes "grant")
origin_word origin.Unknown = None

abbrev pub origin_step : Origin → Option ℕ
origin_step (origin.Report step) = Some step
origin_step (origin.Grant step ticket) = Some step
origin_step origin.Unknown = None

abbrev pub origin_ticket : Origin → Option ℕ
origin_ticket (origin.Report step) = None
origin_ticket (origin.Grant step ticket) = Some ticket
origin_ticket origin.Unknown = None

abbrev pub cost_of_path : Option Found → Option ℕ
cost_of_path None = None
cost_of_path (Some found) = Some found.cost

abbrev pub links_of_path : Option Found → List ℕ
links_of_path None = []
links_of_path (Some found) = found.links

-- the state in which an LSP is shown, if one is known
abbrev pub state_word : LspState → Option (List ℕ)
state_word state.Active = Some (codes "active")
state_word state.Up = Some (codes "up")
state_word state.GoingUp = Some (codes "going up")
state_word state.GoingDown = Some (codes "going down")
state_word state.Down = Some (codes "down")
state_word state.Unplaced = Some (codes "unplaced")
state_word state.Unknown = None

-- the state in which a router reports a path (RFC 8231 section 7.3)
abbrev pub operational_word : Operational → List ℕ
operational_word operational.Active = codes "active"
operational_word operational.Up = codes "up"
operational_word operational.GoingUp = codes "going up"
operational_word operational.GoingDown = codes "going down"
operational_word operational.Down = codes "down"

-- what an LSP-ERROR-CODE means (RFC 8231 section 7.3.3)
abbrev pub lsp_error_word : ℕ → List ℕ
lsp_error_word code =
    if code == 1 then codes "unknown reason"
    else (if code == 2 then codes "limit reached for PCE-controlled LSPs"
    else (if code == 3 then codes "too many pending LSP update requests"
    else (if code == 4 then codes "unacceptable parameters"
    else (if code == 5 then codes "internal error"
    else (if code == 6 then codes "LSP administratively brought down"
    else (if code == 7 then codes "LSP preempted"
    else (if code == 8 then codes "RSVP signaling error"
    else codes "unassigned error code")))))))
