-- By which kept step a path came: the last that reported it, or that granted it.
use Rattle.std.specs.Prelude.{ℕ, zero, suc, ◌≡◌, ◌+◌, ◌-◌, ◌/◌, max, Bool, true, false, ◌==◌, ◌&&◌, not, List, length, map, filter, take, drop, slice_get, Option, Some, None, IsSome, if◌then◌else◌}
use Rattle.std.specs.List.{list_any}
use Rattle.pcep_objects.specs.declared.object.Identifiers.{Identifiers}
use Rattle.lsp_base.specs.Lsps.{is_path_of, lsp_at}
use Rattle.lsp_base.specs.declared.path.Path.{Path}
use Rattle.lsp_base.specs.declared.tunnel.Part.{Part}
use Rattle.lsp_base.specs.declared.tunnel.Part.TheVariants.{Reported, Granted}
use Rattle.step_core.specs.declared.event.Event.{Event}
use Rattle.step_core.specs.declared.event.Event.TheVariants as event
use Rattle.history_core.specs.declared.step.Brief.{Brief}
use Rattle.history_core.specs.declared.step.Brief.TheVariants as brief
use Rattle.history_core.specs.declared.step.Step.{Step}
use Rattle.history_core.specs.Histories.{Content}
use Rattle.pce_seen.specs.declared.origins.LspOrigins.{LspOrigins}
use Rattle.pce_seen.specs.declared.origins.TracedPath.{TracedPath}
use Rattle.pce_seen.specs.declared.origins.Origin.{Origin}
use Rattle.pce_seen.specs.declared.origins.Origin.TheVariants as origin

-- ---- reports

-- a report without identifiers counts as one of LSP ID 0
abbrev pub lsp_id_of : Option Identifiers → ℕ
lsp_id_of None = 0
lsp_id_of (Some i) = i.lsp

abbrev pub is_booked : Brief → Bool
is_booked (brief.Booked wants) = true
is_booked b = false

-- it is a report of the path's LSP by its router, under this LSP ID, and no removal
abbrev pub is_report_of : ℕ → Path → Event → Bool
is_report_of id x (event.Report peer r) = peer == x.peer && r.plsp == x.plsp && lsp_id_of r.identifiers == id && not r.remove
is_report_of id x e = false

-- the step booked such a report
abbrev pub reports : ℕ → Path → Step → Bool
reports id x s = is_booked s.brief && is_report_of id x s.event

-- ---- grants

abbrev pub is_asked_as : ℕ → Brief → Bool
is_asked_as ticket (brief.Asked n) = n == ticket
is_asked_as ticket b = false

abbrev pub is_ask_for : ℕ → Event → Bool
is_ask_for peer (event.Ask n purpose) = n == peer
is_ask_for peer e = false

-- the step gave the ticket to an ask for the router; no number of a ticket is given twice
abbrev pub gives_ticket : ℕ → ℕ → Step → Bool
gives_ticket peer ticket s = is_asked_as ticket s.brief && is_ask_for peer s.event

abbrev pub is_granted_as : ℕ → Brief → Bool
is_granted_as srp (brief.Granted n) = n == srp
is_granted_as srp b = false

-- the ticket of a commit
abbrev pub ticket_in : Event → Option ℕ
ticket_in (event.Commit ticket offer) = Some ticket
ticket_in e = None

-- the ticket was asked for by one of these steps, for the router
abbrev pub was_asked : List Step → ℕ → Option ℕ → Bool
was_asked before peer None = false
was_asked before peer (Some ticket) = list_any (gives_ticket peer ticket) before

-- behind these steps, the step granted this SRP-ID to a ticket of the path's router
abbrev pub grants : ℕ → Path → List Step → Step → Bool
grants srp x before s = is_granted_as srp s.brief && was_asked before x.peer (ticket_in s.event)

-- ---- the last such step

-- the greatest of the numbers below n that passes the test
abbrev pub last_below : (ℕ → Bool) → ℕ → Option ℕ
last_below test zero = None
last_below test (suc n) = if test n then Some n else last_below test n

abbrev pub reports_by : ℕ → Path → Option Step → Bool
reports_by id x None = false
reports_by id x (Some s) = reports id x s

abbrev pub reports_at : ℕ → Path → List Step → ℕ → Bool
reports_at id x steps n = reports_by id x (slice_get steps n)

abbrev pub grants_by : ℕ → Path → List Step → Option Step → Bool
grants_by srp x before None = false
grants_by srp x before (Some s) = grants srp x before s

abbrev pub grants_at : ℕ → Path → List Step → ℕ → Bool
grants_at srp x steps n = grants_by srp x (take n steps) (slice_get steps n)

-- the last of the steps that reported the path, and the last that granted it
abbrev pub last_report : ℕ → Path → List Step → Option ℕ
last_report id x steps = last_below (reports_at id x steps) (length steps)

abbrev pub last_grant : ℕ → Path → List Step → Option ℕ
last_grant srp x steps = last_below (grants_at srp x steps) (length steps)

abbrev pub report_origin : ℕ → Option ℕ → Origin
report_origin first None = origin.Unknown
report_origin first (Some n) = origin.Report (first + n)

abbrev pub ticket_by : Option Step → Option ℕ
ticket_by None = None
ticket_by (Some s) = ticket_in s.event

abbrev pub grant_by : ℕ → Option ℕ → Origin
grant_by place None = origin.Unknown
grant_by place (Some ticket) = origin.Grant place ticket

abbrev pub grant_origin : ℕ → List Step → Option ℕ → Origin
grant_origin first steps None = origin.Unknown
grant_origin first steps (Some n) = grant_by (first + n) (ticket_by (slice_get steps n))

abbrev pub origin_by : ℕ → List Step → Path → Part → Origin
origin_by first steps x (Reported id) = report_origin first (last_report id x steps)
origin_by first steps x (Granted srp) = grant_origin first steps (last_grant srp x steps)

-- by which of these steps the path came, where the first of them has this place among all
abbrev pub origin_of : ℕ → List Step → Path → Origin
origin_of first steps x = origin_by first steps x x.part

-- ---- what is seen

-- where, of `count` steps, those begin that are read for a number of paths: 32,768 in all
abbrev pub reading_start : ℕ → ℕ → ℕ
reading_start count paths = count - 32768 / max paths 1

abbrev pub traced : ℕ → List Step → Path → TracedPath
traced first steps x = record { path = x; origin = origin_of first steps x }

-- the paths of an LSP, each with the one of these steps by which it came
pub record IsTraced (peer plsp : ℕ) (paths : List Path) (d : Content) (seen : LspOrigins) : Type 0 where
  pub router : seen.peer ≡ peer
  pub number : seen.plsp ≡ plsp
  pub rolled : seen.rolled ≡ d.rolled
  pub first : seen.first ≡ d.rolled + reading_start (length d.history) (length paths)
  pub all : seen.paths.items ≡ map (traced seen.first (drop (reading_start (length d.history) (length paths)) d.history)) paths

-- the LSP of these numbers, if there is such a one
abbrev pub SeesOrigins : ℕ → ℕ → Content → Option LspOrigins → Type 0
SeesOrigins peer plsp d None = lsp_at d.state.base.records peer plsp ≡ None
SeesOrigins peer plsp d (Some seen) = IsSome (lsp_at d.state.base.records peer plsp) × IsTraced peer plsp (filter (is_path_of peer plsp) d.state.base.paths) d seen
