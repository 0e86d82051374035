-- What operators are shown.
use Rattle.std.specs.Prelude.{◌≡◌, ℕ, Bool, true, false, List, [], ◌++◌, codes, min, Option, Some, None}
use mathlib.Core.List.{IsPrefix}
use Rattle.te_base.specs.Ted.{Ted}
use Rattle.step_core.specs.declared.event.Event.{Event}
use Rattle.history_tokens.specs.declared.rule.Happening.{Happening}
use Rattle.history_seats.specs.Past.{database_at}
use Rattle.asks.specs.declared.ask.Ask.{Ask}
use Rattle.asks.specs.declared.ask.Ask.TheVariants as ask
use Rattle.pce_view.specs.declared.question.Form.{Form}
use Rattle.pce_view.specs.declared.question.Form.TheVariants.{Table, Json}
use Rattle.pce_view.specs.declared.question.ServerInfo.{ServerInfo}
use Rattle.server_answers.specs.Pages.{IsPageOf}

abbrev pub form_of : Bool → Form
form_of true = Json
form_of false = Table

-- the ask, limited to the last 4,096 steps
abbrev pub bounded : Ask → Ask
bounded (ask.History last) = ask.History (min last 4096)
bounded a = a

-- a document of JSON gets a line of its own; a table ends with its last line
abbrev pub line_end : Form → List ℕ
line_end Json = codes "\n"
line_end Table = []

-- One more page. Its look saw this past, of which the look before had seen a beginning.
abbrev pub AddsPage : Ted → Form → ServerInfo → Ask → Option Ask → List (Happening Event) → List ℕ → List (Happening Event) → List ℕ → Type 0
AddsPage text form info a next begun old past new = (page : List ℕ) × IsPrefix begun past × IsPageOf form info (database_at text past) a next page × (new ≡ old ++ (page ++ line_end form))

-- What an ask is shown: a page, and then what the ask for the next page is shown, up to the last. The pages come in the
-- order of the one history: each look saw all that the looks before it had seen, and what the first began with. The
-- last saw `last`.
pub data IsShown (text : Ted) (form : Form) (info : ServerInfo) : List (Happening Event) → Ask → List ℕ → List (Happening Event) → Type 0 where
  Ends : (begun last : List (Happening Event)) (a : Ask) (page : List ℕ) → IsPrefix begun last → IsPageOf form info (database_at text last) a None page
      → IsShown text form info begun a (page ++ line_end form) last
  Goes_on : (begun past last : List (Happening Event)) (a next : Ask) (page rest : List ℕ) → IsPrefix begun past → IsPageOf form info (database_at text past) a (Some next) page → IsShown text form info past next rest last
      → IsShown text form info begun a ((page ++ line_end form) ++ rest) last
