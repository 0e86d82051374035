use Rattle.std.proofs.Common.{rules, sym, ◌≡◌, ◌∙◌, List, [], ◌∷◌, ◌++◌, ap}
use Rattle.history_core.specs.Histories.{rolled_up}
use Rattle.history_tokens.specs.declared.rule.Happening.{Happening}
use Rattle.history_tokens.specs.declared.rule.Happening.TheVariants.{Rolled}
use Rattle.step_core.specs.declared.event.Event.{Event}
use Rattle.history_seats.specs.Past.{database_at}
use Rattle.history_seats.specs.Bytes.{kept_bytes}
use Rattle.history_seats.proofs.StepBytes.{bytes_rolled}
use Rattle.history_seats.proofs.Pasts.{at_rolled}
use Rattle.history_seats.proofs.held.Held.take_rolled.Goals as goal

pub invariant_of-self-2 : goal.invariant_of-self-2
invariant_of-self-2 g c =
    let text = g.B.StepNumbers.text in
    let past = c.self.inside.history in
    let is : c.take_rolled.new.self ≡ rolled_up (database_at text past) = c.in_ok-steps.ensures.rolled ∙ ap rolled_up c.self.invariant.5 in
    let after : c.show-2.new.self ≡ past ++ Rolled ∷ [] = c.show-2.ensures.same ∙ c.rolled.ensures ∙ ap (λ (h : List (Happening Event)). h ++ Rolled ∷ []) c.show.ensures.same in
    let there : c.take_rolled.new.self ≡ database_at text c.show-2.new.self = at_rolled text past c.take_rolled.new.self is ∙ ap (database_at text) (sym after) in
    (search rules, search rules, search rules, search rules, search rules, there, sym (bytes_rolled (database_at text past)) ∙ ap kept_bytes (sym is ∙ there))
