use Rattle.std.proofs.Common.{inl, inr}
use Rattle.std.proofs.lemmas.Bool.{cases_Bool}
use Rattle.bandwidth_book.specs.Reservation.{takes_memory}
use Rattle.bandwidth_book.proofs.Moved.{same_shifted}
use Rattle.bandwidth_book.proofs.link_entries.LinkEntries.move_all.Goals as goal

pub returns-in_err-make_entries-clause-moved : goal.returns-in_err-make_entries-clause-moved
returns-in_err-make_entries-clause-moved c = λ l h.
    elim (cases_Bool (takes_memory c.args.op)) [
      | inl promise ↦ same_shifted c.args.op _ _ _ promise (c.make_entries.ensures.same l)
      | inr sure ↦ absurd (let ok = c.in_err-make_entries.ensures.sure sure in cc)
    ]
