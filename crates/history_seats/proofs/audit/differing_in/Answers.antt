use Rattle.std.proofs.Common.{◌≡◌, List, Any, IfSome, subst, ℕ, inr}
use Rattle.history_seats.specs.declared.receipt.Receipt.{Receipt}
use Rattle.history_seats.specs.Audits.{SeatDiffers, Differs}
use Rattle.history_seats.proofs.Places.{if_more}
use Rattle.history_seats.proofs.audit.differing_in.Goals as goal

pub returns-clause-some : goal.returns-clause-some
returns-clause-some g c =
    let e : c.as_slice.result.now ≡ c.args.seat.now.receipts = cc in
    let here : IfSome c.differing.result (λ p. Any (Differs c.args.database.now p) c.args.seat.now.receipts) = subst (λ (rs : List Receipt). IfSome c.differing.result (λ p. Any (Differs c.args.database.now p) rs)) e c.differing.ensures.some in
    if_more (λ (p : ℕ). Any (Differs c.args.database.now p) c.args.seat.now.receipts) (λ (p : ℕ). SeatDiffers c.args.database.now p c.args.seat.now) c.differing.result (λ p h. inr h) here
