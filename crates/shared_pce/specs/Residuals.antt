-- What a step left of the links of the path that it added.
use Rattle.std.specs.Prelude.{ℕ, ℤ, ◌≡◌, ◌++◌, nat_lt, Bool, true, false, List, [], length, drop, Some, Contains, if◌then◌else◌}
use Rattle.lsp_base.specs.Shares.{unreserved}
use Rattle.te_base.specs.Ted.{Ted}
use Rattle.delegate_rules.specs.Reports.{hops_of, links_of}
use Rattle.server_counts.specs.declared.residuals.ResidualRow.{ResidualRow}
use Rattle.step_core.specs.declared.event.Event.{Event}
use Rattle.step_core.specs.declared.event.Event.TheVariants.{Report, Commit}
use Rattle.step_core.specs.declared.event.Reply.{Reply}
use Rattle.step_core.specs.declared.event.Reply.TheVariants.{Booked, Granted}
use Rattle.step_core.specs.States.{State}
use Rattle.step_core.specs.Steps.{step}
use Rattle.history_core.specs.Histories.{Content, Replays, steps_of}

-- the links of the path that an event adds: those of a report's route (RFC 3209), or those that a commit offers
abbrev pub links_in : Ted → Event → List ℕ
links_in te (Report peer r) = links_of te r
links_in te (Commit ticket (Some links)) = links
links_in te e = []

-- a report's route has too many hops for its links to be looked at
abbrev pub is_long : Event → Bool
is_long (Report peer r) = nat_lt 256 (length (hops_of r))
is_long e = false

-- the path was booked or granted
abbrev pub adds_path : Reply → Bool
adds_path (Booked wants) = true
adds_path (Granted srp) = true
adds_path r = false

-- the priority at which a step is looked at: for a report its setup priority; a commit has only the number of its
-- ticket, so it may be any
abbrev pub IsLookedAt : Event → ℕ → Type 0
IsLookedAt (Report peer r) priority = priority ≡ (r.priorities).setup
IsLookedAt e priority = Unit {0}

-- what is left of a link at a priority
abbrev pub left_at : State → ℕ → ℕ → ℤ
left_at s link priority = unreserved s.te.links s.base.paths link priority

-- The row's next step, of a database that replays, was of an event that added a path over the link, and this was left
-- of the link before that step and after it.
pub record WasLeft (row : ResidualRow) : Type 0 where
  pub d : Content
  pub e : Event
  pub replays : Replays d
  pub place : row.step ≡ steps_of d
  pub brought : adds_path (step d.state e).reply ≡ true
  pub link : Contains (links_in d.state.te e) row.link
  pub priority : IsLookedAt e row.priority
  pub before : row.before ≡ left_at d.state row.link row.priority
  pub after : row.after ≡ left_at (step d.state e).state row.link row.priority

-- ---- rows as they are made

-- the row of a link before the step
abbrev pub row_before : Content → ℕ → ℕ → ResidualRow
row_before d priority link = let left = left_at d.state link priority in record { step = steps_of d; link = link; priority = priority; before = left; after = left }

-- the row of a link after the step
abbrev pub row_after : State → ResidualRow → ResidualRow
row_after s row = record row { after = left_at s row.link row.priority }

-- the row is of a link of the event
abbrev pub IsBefore : Content → Event → ℕ → ResidualRow → Type 0
IsBefore d e priority row = (row ≡ row_before d priority row.link) × Contains (links_in d.state.te e) row.link

-- rows after others; if there are 65,536, the older half is dropped first
abbrev pub with_rows : List ResidualRow → List ResidualRow → List ResidualRow
with_rows rows old = (if nat_lt (length old) 65536 then old else drop 32768 old) ++ rows
