-- The states in which all LSPs are shown, page by page.
use Rattle.std.specs.Prelude.{◌≡◌, ℕ, List, ◌++◌, Option, Some, None}
use mathlib.Core.List.{IsPrefix}
use Rattle.te_base.specs.Ted.{Ted}
use Rattle.step_core.specs.declared.event.Event.{Event}
use Rattle.history_tokens.specs.declared.rule.Happening.{Happening}
use Rattle.history_seats.specs.Past.{database_at}
use Rattle.pce_seen.specs.declared.places.PlacedPage.{PlacedPage}
use Rattle.pce_view.specs.Lsps.{SeesLsps}
use Rattle.pce_view.specs.States.{shown_states}
use Rattle.pce_view.specs.declared.heard.Heard.{Heard}
use Rattle.pce_view.specs.declared.shown_states.ShownState.{ShownState}

-- the states of a page: what one look saw of the database to which this past led from the network of the link text
pub record IsPageOf (text : Ted) (past : List (Happening Event)) (from : ℕ) (next : Option ℕ) (page : List ShownState) : Type 0 where
  pub placed : PlacedPage
  pub heard : Heard
  pub sees : SeesLsps None from (database_at text past) placed
  pub states : page ≡ shown_states heard placed.gaps.items 0 (placed.page).lsps.items
  pub next_is : next ≡ (placed.page).next

-- One more page. Its look saw this past, of which the look before had seen a beginning.
abbrev pub AddsStates : Ted → ℕ → Option ℕ → List (Happening Event) → List ShownState → List (Happening Event) → List ShownState → Type 0
AddsStates text from next begun old past new = (page : List ShownState) × IsPrefix begun past × IsPageOf text past from next page × (new ≡ old ++ page)

-- The states of the LSPs from a place on: those of a page, followed by those of the pages from the next one's place on,
-- up to the last. Each look saw all that the looks before it had seen.
pub data AreStates (text : Ted) : List (Happening Event) → ℕ → List ShownState → List (Happening Event) → Type 0 where
  Ends : (begun last : List (Happening Event)) (from : ℕ) (page : List ShownState) → IsPrefix begun last → IsPageOf text last from None page
      → AreStates text begun from page last
  Goes_on : (begun past last : List (Happening Event)) (from next : ℕ) (page rest : List ShownState) → IsPrefix begun past → IsPageOf text past from (Some next) page → AreStates text past next rest last
      → AreStates text begun from (page ++ rest) last
