use Rattle.std.proofs.Common.{◌≡◌, ◌∙◌, [], ◌∷◌, ◌++◌, List, true, ap, sym, rules}
use Rattle.history_tokens.specs.declared.rule.Happening.{Happening}
use Rattle.history_tokens.specs.declared.rule.Happening.TheVariants.{Rolled}
use Rattle.step_core.specs.declared.event.Event.{Event}
use Rattle.history_seats.specs.Past.{database_at}
use Rattle.shared_pce.specs.Rolls.{is_let_go}
use Rattle.shared_pce.proofs.Rolls.{rolls_if}
use Rattle.shared_pce.proofs.shared.Shared.roll_if_written.Goals as goal

pub returns-clause-rolled : goal.returns-clause-rolled
returns-clause-rolled g c =
    let text = g.B.StepNumbers.text in
    let past = c.deref_mut.result.now in
    let looked : c.deref.result.now ≡ past = search rules in
    let again : c.deref_mut-2.result.now ≡ past = search rules in
    let later : c.deref-3.result.now ≡ c.take_rolled.new.self = search rules in
    let due : is_let_go c.args.written c.args.self.now.roll_at c.args.at (database_at text c.deref.result.now) ≡ true = search rules in
    rolls_if (is_let_go c.args.written c.args.self.now.roll_at c.args.at) text past c.take_rolled.new.self c.database.result.now c.args.seat.now c.show_seat.new.seat c.take_rolled.new.seat c.rolled-steps.result
    c.show_seat.ensures.begins (ap (λ (h : List (Happening Event)). is_let_go c.args.written c.args.self.now.roll_at c.args.at (database_at text h)) (sym looked) ∙ due) c.show_seat.ensures.shown (c.in_ok-dropped.ensures.rolled ∙ ap (λ (h : List (Happening Event)). h ++ Rolled ∷ []) again) (c.database.ensures ∙ ap (database_at text) later) c.rolled-steps.ensures c.take_rolled.ensures.seen
