use Rattle.std.proofs.Common.{◌≡◌, true, false, subst, sym, ◌∙◌}
use Rattle.bandwidth_book.specs.Reservation.{Reservation, is_before}
use Rattle.bandwidth_book.proofs.Order.{after_end, before_end}
use Rattle.bandwidth_book.proofs.entry.is_after_at.Goals as goal

pub returns-then-place-held-clause-after : goal.returns-then-place-held-clause-after
returns-then-place-held-clause-after c = λ after.
    before_end c.args.one.now c.index-held-place.result c.args.held.now c.args.place c.if-place-held.true
    (subst (λ (h : Reservation). is_before c.args.one.now h ≡ true) c.index-held-place.is (sym c.is_before.ensures ∙ after))

pub returns-then-place-held-clause-before : goal.returns-then-place-held-clause-before
returns-then-place-held-clause-before c = λ not within.
    after_end c.args.one.now c.index-held-place.result c.args.held.now c.args.place c.requires within
    (subst (λ (h : Reservation). is_before c.args.one.now h ≡ false) c.index-held-place.is (sym c.is_before.ensures ∙ not))
