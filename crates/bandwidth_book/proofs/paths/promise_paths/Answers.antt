use Rattle.std.proofs.Common.{refl, ◌∙◌, arith, inl, inr}
use Rattle.bandwidth_book.specs.Ledgers.{count, held_at}
use Rattle.bandwidth_book.specs.Paths.{held_by}
use Rattle.bandwidth_book.specs.declared.reservation.BookOp.TheVariants.{Promise}
use Rattle.bandwidth_book.proofs.Moved.{promised}
use Rattle.bandwidth_book.proofs.Promises.{split}
use Rattle.bandwidth_book.proofs.Places.{on_ok}
use Rattle.bandwidth_book.proofs.paths.promise_paths.Goals as goal

pub returns-clause-noted : goal.returns-clause-noted
returns-clause-noted c = λ l t h.
    let below = (c.move_paths.ensures.moved l t h).below in
    let none = c.requires l t h in
    omega (arith, below, none)

pub returns-clause-kept : goal.returns-clause-kept
returns-clause-kept c = λ l t.
    elim (split l (count c.args.ledgers.now)) [
      | inl less ↦ (c.move_paths.ensures.moved l t less).kept ∙ promised Promise refl (held_at c.args.ledgers.now l t) (held_by l t c.args.paths.now)
      | inr past ↦ c.move_paths.ensures.past l t past
    ]

pub returns-clause-ok : goal.returns-clause-ok
returns-clause-ok c = on_ok c.move_paths.result _ _ c.move_paths.ensures.ok (λ room l t h. let r = room l t h in omega (arith, r))
