-- numbers_text
use Rattle.std.proofs.Common.{List, subst}
use Rattle.std.proofs.lemmas.Result.{IfOk-weaker}
use Rattle.pce_view.specs.declared.shown_states.ShownState.{ShownState}
use Rattle.server_viewers.specs.Views.{IsNumbers}
use Rattle.server_viewers.proofs.viewers.numbers_text.Goals as goal

pub returns-clause-text : goal.returns-clause-text
returns-clause-text g c = IfOk-weaker c.counted_text.result _ _
    (λ text numbers. record {
      before = c.all_states.new.front;
      states = c.in_ok-states.states.items;
      are_states = c.in_ok-states.ensures.states;
      later = c.counted_text.ensures.begins;
      numbers = subst (λ (states : List ShownState). IsNumbers g.B.StepNumbers.text c.counted_text.new.front states text.items) c.deref.ensures.value numbers;
    })
    c.counted_text.ensures.text
