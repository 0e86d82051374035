use Rattle.history_seats.proofs.Whole.{all_placed}
use Rattle.history_seats.proofs.audit.test_receipts.Goals as goal

pub returns-in-None-clause-ok : goal.returns-in-None-clause-ok
returns-in-None-clause-ok g c =
    let agree = c.in-None.ensures.none in
    let rest = all_placed c.args.database.now c.args.seats.now c.requires.summed c.requires.distinct c.requires.placed agree in
    (agree, rest.0, rest.1, rest.2)
