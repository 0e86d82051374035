use Rattle.std.proofs.Common.{ℕ, List, ◌++◌, Option, refl, subst, sym}
use Rattle.history_tokens.proofs.Beginnings.{prefix_same, prefix_trans}
use Rattle.pce_view.specs.declared.shown_states.ShownState.{ShownState}
use Rattle.server_viewers.specs.States.{AddsStates, AreStates}
use Rattle.server_viewers.proofs.Stating.{states_last, states_more}
use Rattle.server_viewers.proofs.states.all_states.Goals as goal

pub loop-page-init : goal.loop-page-init
loop-page-init g c = record {
  begins = prefix_same _ _ refl;
  awaits = λ rest last k. subst (λ (states : List ShownState). AreStates g.B.StepNumbers.text c.args.front.now 0 (states ++ rest) last) (sym c.new-states.ensures.items) k;
}

pub returns-in-None-clause-begins : goal.returns-in-None-clause-begins
returns-in-None-clause-begins g c = prefix_trans _ c.loop-page.front _ c.loop-page.invariant.begins c.add_page.ensures.begins

pub returns-in-None-clause-states : goal.returns-in-None-clause-states
returns-in-None-clause-states g c =
    states_last g.B.StepNumbers.text c.args.front.now c.loop-page.front c.add_page.new.front c.loop-page.from c.loop-page.states.items c.add_page.new.states.items c.loop-page.invariant.awaits
    (subst (λ (next : Option ℕ). AddsStates g.B.StepNumbers.text c.loop-page.from next c.loop-page.front c.loop-page.states.items c.add_page.new.front c.add_page.new.states.items) c.in-None.is c.in_ok-next.ensures.states)

pub loop-page-preserved : goal.loop-page-preserved
loop-page-preserved g c = record {
  begins = prefix_trans _ c.loop-page.front _ c.loop-page.invariant.begins c.add_page.ensures.begins;
  awaits = states_more g.B.StepNumbers.text c.args.front.now c.loop-page.front c.add_page.new.front c.loop-page.from c.in-Some.next c.loop-page.states.items c.add_page.new.states.items c.loop-page.invariant.awaits
      (subst (λ (next : Option ℕ). AddsStates g.B.StepNumbers.text c.loop-page.from next c.loop-page.front c.loop-page.states.items c.add_page.new.front c.add_page.new.states.items) c.in-Some.is c.in_ok-next.ensures.states);
}
