use Rattle.std.proofs.Common.{ap, ◌∙◌, arith}
use Rattle.bandwidth_book.specs.Paths.{held_by}
use Rattle.bandwidth_book.specs.Reservation.{with_all}
use Rattle.bandwidth_book.specs.Ledgers.{held_at}
use Rattle.bandwidth_book.proofs.Moved.{moved_add}
use Rattle.bandwidth_book.proofs.Stands.{held_after}
use Rattle.bandwidth_book.proofs.paths.change_paths.Goals as goal

pub returns-clause-kept : goal.returns-clause-kept
returns-clause-kept c = λ l t less.
    let same = c.drop_paths.ensures.count in
    (c.move_paths.ensures.moved l t (omega (arith, less, same))).kept ∙ moved_add (held_at c.drop_paths.new.ledgers l t) (held_by l t c.args.added.now)
    ∙ ap (λ hs. with_all hs (held_by l t c.args.added.now)) (c.drop_paths.ensures.kept l t less)

pub returns-clause-stands : goal.returns-clause-stands
returns-clause-stands c = λ paths s has l t h less.
    held_after l t h (held_at c.args.ledgers.now l t) (held_at c.move_paths.new.ledgers l t) paths c.args.dropped.now c.args.added.now (returns-clause-kept c l t less) has (s l t h less)

pub returns-clause-noted : goal.returns-clause-noted
returns-clause-noted c = λ paths before l t less.
    let same = c.drop_paths.ensures.count in
    let first = c.drop_paths.ensures.promised l t less in
    let then = (c.move_paths.ensures.moved l t (omega (arith, less, same))).below in
    let noted = before l t less in
    omega (arith, first, then, noted)
