use Rattle.std.proofs.Common.{◌≡◌, ◌<◌, length, get_or, arith, sym, ◌∙◌}
use Rattle.std.proofs.lemmas.Bool.Decides.{nat_tests}
use Rattle.bandwidth_book.specs.Reservation.{around, end_in}
use Rattle.bandwidth_book.proofs.Covered.{below_next}
use Rattle.bandwidth_book.proofs.entry.Entry.is_below_another.Goals as goal

pub returns-then-end-count : goal.returns-then-end-count
returns-then-end-count c = λ op p same.
    let hs = around c.self.inside.gap c.self.inside.gone c.self.inside.items.items in
    let end : c.end_around-end.result ≡ end_in c.args.held hs = rw c.as_slice-items.ensures at c.end_around-end.ensures.end in
    let long : c.count.result ≡ length hs = rw (← c.self.view_is) at c.count.ensures in
    let less : c.end_around-end.result < length hs = (let test = c.if-end-count.true in omega (arith, test, long)) in
    let one : c.one_at.result ≡ get_or hs c.end_around-end.result c.one_at.result = rw c.as_slice-items.ensures at c.one_at.ensures in
    let equal : c.hold.result ≡ c.hold-then-end-count.result = grind (arith, nat_tests) in
    rw (← c.self.view_is) (below_next op c.args.held c.one_at.result hs c.end_around-end.result p end less one (sym c.hold.ensures ∙ equal ∙ c.hold-then-end-count.ensures))
