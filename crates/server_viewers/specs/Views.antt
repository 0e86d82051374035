-- What viewers are shown.
use Rattle.std.specs.Prelude.{◌≡◌, ℕ, List, Option}
use mathlib.Core.List.{IsPrefix}
use Rattle.te_base.specs.Ted.{Ted}
use Rattle.step_core.specs.declared.event.Event.{Event}
use Rattle.history_tokens.specs.declared.rule.Happening.{Happening}
use Rattle.history_seats.specs.Past.{database_at}
use Rattle.asks.specs.declared.ask.Ask.{Ask}
use Rattle.pce_seen.specs.declared.seen.Numbers.{Numbers}
use Rattle.database_looks.specs.Looks.{SeesNumbers}
use Rattle.metrics_text.specs.Exposition.{exposition}
use Rattle.metrics_text.specs.Table.{families}
use Rattle.pce_view.specs.declared.question.Form.TheVariants.{Json}
use Rattle.pce_view.specs.declared.question.ServerInfo.{ServerInfo}
use Rattle.metrics_text.specs.declared.table.Process.{Process}
use Rattle.pce_view.specs.declared.shown_states.ShownState.{ShownState}
use Rattle.server_answers.specs.Pages.{IsPageOf}
use Rattle.server_counts.specs.declared.counters.Counters.{Counters}
use Rattle.server_viewers.specs.States.{AreStates}

-- a document of JSON: what one look saw of the database to which this past led from the network of the link text, with what
-- routers said
pub record IsDocument (text : Ted) (past : List (Happening Event)) (a : Ask) (document : List ℕ) : Type 0 where
  pub info : ServerInfo
  pub next : Option Ask
  pub page : IsPageOf Json info (database_at text past) a next document

-- metrics with these states of LSPs: what one look saw of the database to which this past led, and some counts
pub record IsNumbers (text : Ted) (past : List (Happening Event)) (states : List ShownState) (document : List ℕ) : Type 0 where
  pub info : ServerInfo
  pub numbers : Numbers
  pub counters : Counters
  pub process : Process
  pub sees : SeesNumbers (database_at text past) numbers
  pub says : document ≡ exposition (families info numbers counters process states)

-- The metrics: the states of all LSPs, and then what one look saw of the database to which this past led. Each look saw all that the
-- looks before it had seen, and what had been seen when they began.
pub record IsMetrics (text : Ted) (begun past : List (Happening Event)) (document : List ℕ) : Type 0 where
  pub before : List (Happening Event)
  pub states : List ShownState
  pub are_states : AreStates text begun 0 states before
  pub later : IsPrefix before past
  pub numbers : IsNumbers text past states document
