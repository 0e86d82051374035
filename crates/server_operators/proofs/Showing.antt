-- What is shown page by page.
use Rattle.std.proofs.Common.{◌≡◌, ℕ, List, ◌++◌, Some, None, append_assoc, subst, sym}
use mathlib.Core.List.{IsPrefix}
use Rattle.te_base.specs.Ted.{Ted}
use Rattle.step_core.specs.declared.event.Event.{Event}
use Rattle.history_tokens.specs.declared.rule.Happening.{Happening}
use Rattle.history_tokens.proofs.Beginnings.{prefix_trans}
use Rattle.asks.specs.declared.ask.Ask.{Ask}
use Rattle.pce_view.specs.declared.question.Form.{Form}
use Rattle.pce_view.specs.declared.question.ServerInfo.{ServerInfo}
use Rattle.server_operators.specs.Shows.{line_end, AddsPage, IsShown}
use Rattle.server_operators.specs.Shows.IsShown.{Ends, Goes_on}

module _ (text : Ted) (form : Form) (info : ServerInfo) (begun : List (Happening Event)) (first : Ask) where
  -- after this past and these pages comes what this ask is shown
  abbrev pub Awaits : List (Happening Event) → Ask → List ℕ → Type 0
  Awaits past a pages = (rest : List ℕ) (last : List (Happening Event)) → IsShown text form info past a rest last → IsShown text form info begun first (pages ++ rest) last

  -- the last page
  pub shown_last : (past last : List (Happening Event)) (a : Ask) (old new : List ℕ) → Awaits past a old → AddsPage text form info a None past old last new → IsShown text form info begun first new last
  shown_last past last a old new on h =
      subst (λ (pages : List ℕ). IsShown text form info begun first pages last) (sym h.3)
      (on (h.0 ++ line_end form) last (Ends past last a h.0 h.1 h.2))

  -- a page that others follow
  pub shown_more : (past then : List (Happening Event)) (a next : Ask) (old new : List ℕ) → Awaits past a old → AddsPage text form info a (Some next) past old then new → Awaits then next new
  shown_more past then a next old new on h = λ rest last k.
      subst (λ (pages : List ℕ). IsShown text form info begun first (pages ++ rest) last) (sym h.3)
      (subst (λ (pages : List ℕ). IsShown text form info begun first pages last) (sym (append_assoc old (h.0 ++ line_end form) rest))
      (on ((h.0 ++ line_end form) ++ rest) last (Goes_on past then last a next h.0 rest h.1 h.2 k)))

-- what is shown after more was seen is also what is shown after less
pub shown_behind : (text : Ted) (form : Form) (info : ServerInfo) (begun later : List (Happening Event)) (first : Ask) (pages : List ℕ) (last : List (Happening Event)) → IsPrefix begun later
    → IsShown text form info later first pages last → IsShown text form info begun first pages last
shown_behind text form info begun later first pages last h (Ends _ _ a page k is) = Ends begun last a page (prefix_trans begun later last h k) is
shown_behind text form info begun later first pages last h (Goes_on _ past _ a next page rest k is on) = Goes_on begun past last a next page rest (prefix_trans begun later past h k) is on

-- the same form and question, given by an equation
pub shown_alike : (text : Ted) (form other : Form) (info : ServerInfo) (begun : List (Happening Event)) (first ask : Ask) (pages : List ℕ) (last : List (Happening Event)) → other ≡ form → ask ≡ first
    → IsShown text other info begun ask pages last → IsShown text form info begun first pages last
shown_alike text form other info begun first ask pages last f a h =
    subst (λ (it : Form). IsShown text it info begun first pages last) f (subst (λ (it : Ask). IsShown text other info begun it pages last) a h)
