use Rattle.std.proofs.Common.{rules, refl, sym, ◌∙◌, ap, ◌≡◌, ◌+◌, ◌<◌, length, get_or, slice_set}
use Rattle.std.specs.Prelude.{if◌then◌else◌}
use Rattle.history_core.specs.Briefs.{is_grant}
use Rattle.history_seats.specs.Receipts.{granted_in}
use Rattle.history_seats.proofs.Placed.{placed_set, granted_set}
use Rattle.history_seats.proofs.tests.overwrite_in.Goals as goal

pub invariant_of-seat : goal.invariant_of-seat
invariant_of-seat g c =
    let s = c.seat.inside in
    let i = c.seat.invariant in
    let rs = s.receipts.items in
    let new = slice_set rs c.args.at c.args.receipt in
    let there : c.args.at < length rs = search rules in
    let place : c.args.receipt.place ≡ (get_or rs c.args.at c.index.result.now).place = search rules in
    let count : c.grant_count-2.result ≡ (if is_grant (get_or rs c.args.at c.index-2.result.now).brief then 1 else 0) = search rules in
    let received : s.received ≡ s.folded + length new = search rules in
    let same : granted_in new ≡ granted_in rs = granted_set rs new c.args.at c.args.receipt c.index-2.result.now c.grant_count.result c.grant_count-2.result there refl c.grant_count.ensures.value count c.if-grant_count-gt0.false in
    (i.0, i.1, i.2, i.3, received, i.5 ∙ ap (λ n. s.folded_grants + n) (sym same), i.6, placed_set s.folded s.floor rs new s.drawn c.args.at c.args.receipt c.index.result.now i.7 refl place)
