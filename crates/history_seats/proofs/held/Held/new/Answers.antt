use Rattle.std.proofs.Common.{rules, sym, ◌≡◌, ◌∙◌, [], List, ap}
use Rattle.history_tokens.specs.declared.rule.Happening.{Happening}
use Rattle.step_core.specs.declared.event.Event.{Event}
use Rattle.history_seats.specs.Past.{database_at}
use Rattle.history_seats.specs.Bytes.{kept_bytes}
use Rattle.history_seats.proofs.StepBytes.{bytes_first}
use Rattle.history_seats.proofs.Pasts.{at_first, none_granted}
use Rattle.history_seats.proofs.held.Held.new.Goals as goal

pub invariant_of-result : goal.invariant_of-result
invariant_of-result g c =
    let text = g.B.StepNumbers.text in
    let d = c.args.database in
    let replays = c.history-none.ensures.replays in
    let is : d ≡ database_at text [] = at_first text d replays c.requires.none_taken c.requires.start in (
      c.open-steps.ensures.total ∙ sym c.requires.none_taken,
      c.open-grants.ensures.total ∙ sym (none_granted text d replays c.requires.none_taken c.requires.start),
      search rules,
      search rules,
      search rules,
      is ∙ ap (database_at text) (sym c.seated.ensures.nothing_happened),
      sym (ap (λ (h : List (Happening Event)). kept_bytes (database_at text h)) c.seated.ensures.nothing_happened ∙ bytes_first text),
    )

pub returns-in-Ok-clause-database : goal.returns-in-Ok-clause-database
returns-in-Ok-clause-database g c = (c.seated.ensures.nothing_happened, at_first g.B.StepNumbers.text c.args.database c.history-none.ensures.replays c.requires.none_taken c.requires.start)
