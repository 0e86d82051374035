use Rattle.std.proofs.Common.{◌≡◌, slice_get, slice_index, sym, ap, arith}
use Rattle.bandwidth_book.specs.Paths.{tunnel_eq}
use Rattle.bandwidth_book.specs.Tunnels.{most_on, sum_in}
use Rattle.bandwidth_book.proofs.Same.{tunnel_laws}
use Rattle.bandwidth_book.proofs.Places.{at_index}
use Rattle.bandwidth_book.proofs.Totals.{total_small}
use Rattle.bandwidth_book.proofs.ledgers.Ledgers.sums.Goals as goal

pub returns-clause-small : goal.returns-clause-small
returns-clause-small c = λ p q.
    let row = at_index c.args.self.now.sums.items c.args.link c.index.result.now c.requires (sym c.index.ensures) in
    let here : slice_index c.index.result.now p ≡ sum_in (slice_get c.args.self.now.sums.items c.args.link) p = ap (λ o. sum_in o p) (sym row) in
    let s = c.args.self.now.summed c.args.link p c.requires q in
    let t = total_small tunnel_eq tunnel_laws (most_on c.args.link p) c.args.self.now.tunnels.entries c.args.self.now.unique c.args.self.now.few (λ k. c.args.self.now.small c.args.link k p c.requires) in
    omega (arith, here, s, t)
