use Rattle.std.proofs.Common.{◌≡◌, ◌∙◌, ap, rules}
use Rattle.history_seats.specs.Past.{database_at}
use Rattle.shared_pce.proofs.Rolls.{rolled_up}
use Rattle.shared_pce.proofs.shared.Shared.roll.Goals as goal

pub returns-clause-rolled : goal.returns-clause-rolled
returns-clause-rolled g c =
    let text = g.B.StepNumbers.text in
    let past = c.deref_mut.result.now in
    let later : c.deref-2.result.now ≡ c.take_rolled.new.self = search rules in
    rolled_up text past c.take_rolled.new.self c.database.result.now c.args.seat.now c.take_rolled.new.seat c.rolled-steps.result
    c.take_rolled.ensures.begins c.in_ok-dropped.ensures.rolled (c.database.ensures ∙ ap (database_at text) later) c.rolled-steps.ensures c.take_rolled.ensures.seen
