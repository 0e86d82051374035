-- The states of LSPs, page by page.
use Rattle.std.proofs.Common.{ℕ, List, ◌++◌, Some, None, append_assoc, subst, sym}
use mathlib.Core.List.{IsPrefix}
use Rattle.te_base.specs.Ted.{Ted}
use Rattle.step_core.specs.declared.event.Event.{Event}
use Rattle.history_tokens.specs.declared.rule.Happening.{Happening}
use Rattle.history_tokens.proofs.Beginnings.{prefix_trans}
use Rattle.pce_view.specs.declared.shown_states.ShownState.{ShownState}
use Rattle.server_viewers.specs.States.{AddsStates, AreStates}
use Rattle.server_viewers.specs.States.AreStates.{Ends, Goes_on}
use Rattle.server_viewers.specs.Views.{IsMetrics}

module _ (text : Ted) (begun : List (Happening Event)) where
  -- after this past and these states come the states of the LSPs from a place on
  abbrev pub Awaits : List (Happening Event) → ℕ → List ShownState → Type 0
  Awaits past from states = (rest : List ShownState) (last : List (Happening Event)) → AreStates text past from rest last → AreStates text begun 0 (states ++ rest) last

  -- the last page
  pub states_last : (past last : List (Happening Event)) (from : ℕ) (old new : List ShownState) → Awaits past from old → AddsStates text from None past old last new → AreStates text begun 0 new last
  states_last past last from old new on h =
      subst (λ (states : List ShownState). AreStates text begun 0 states last) (sym h.3) (on h.0 last (Ends past last from h.0 h.1 h.2))

  -- a page that others follow
  pub states_more : (past then : List (Happening Event)) (from next : ℕ) (old new : List ShownState) → Awaits past from old → AddsStates text from (Some next) past old then new → Awaits then next new
  states_more past then from next old new on h = λ rest last k.
      subst (λ (states : List ShownState). AreStates text begun 0 (states ++ rest) last) (sym h.3)
      (subst (λ (states : List ShownState). AreStates text begun 0 states last) (sym (append_assoc old h.0 rest))
      (on (h.0 ++ rest) last (Goes_on past then last from next h.0 rest h.1 h.2 k)))

-- the states also begin where less had been seen
pub states_earlier : (text : Ted) (earlier begun : List (Happening Event)) (from : ℕ) (states : List ShownState) (last : List (Happening Event)) → IsPrefix earlier begun → AreStates text begun from states last → AreStates text earlier from states last
states_earlier text earlier begun from states last less (Ends b l f page more is) = Ends earlier l f page (prefix_trans earlier b l less more) is
states_earlier text earlier begun from states last less (Goes_on b past l f next page rest more is on) = Goes_on earlier past l f next page rest (prefix_trans earlier b past less more) is on

-- so do the metrics
pub metrics_earlier : (text : Ted) (earlier begun past : List (Happening Event)) (document : List ℕ) → IsPrefix earlier begun → IsMetrics text begun past document → IsMetrics text earlier past document
metrics_earlier text earlier begun past document less m = record {
  before = m.before;
  states = m.states;
  are_states = states_earlier text earlier begun 0 m.states m.before less m.are_states;
  later = m.later;
  numbers = m.numbers;
}
