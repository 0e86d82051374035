use Rattle.std.proofs.Common.{◌≤◌, length, ◌∙◌, arith, inl, inr}
use Rattle.bandwidth_book.specs.Reservation.{promised_after}
use Rattle.bandwidth_book.specs.Ledgers.{count, held_at, promised_on}
use Rattle.bandwidth_book.specs.Paths.{held_by}
use Rattle.bandwidth_book.specs.declared.reservation.BookOp.TheVariants.{Withdraw}
use Rattle.bandwidth_book.proofs.Moved.{withdrawn}
use Rattle.bandwidth_book.proofs.Promises.{given_up, split}
use Rattle.bandwidth_book.proofs.paths.give_up_room.Goals as goal

pub returns-clause-none : goal.returns-clause-none
returns-clause-none c = λ l t h.
    let below : promised_on c.move_paths.new.ledgers l t ≤ promised_after Withdraw (length (held_by l t c.args.pending.now)) (promised_on c.args.ledgers.now l t) = rw c.as_slice.ensures at (c.move_paths.ensures.moved l t h).below in
    let none = given_up (length (held_by l t c.args.pending.now)) (promised_on c.args.ledgers.now l t) (c.requires l t h) in
    omega (arith, below, none)

pub returns-clause-kept : goal.returns-clause-kept
returns-clause-kept c = λ l t.
    elim (split l (count c.args.ledgers.now)) [
      | inl less ↦ (c.move_paths.ensures.moved l t less).kept ∙ withdrawn (held_at c.args.ledgers.now l t) (held_by l t c.as_slice.result.now)
      | inr past ↦ c.move_paths.ensures.past l t past
    ]
