use Rattle.std.proofs.Common.{◌≡◌, ◌<◌, length, slice_index, slice_index_or, [], ap, arith}
use Rattle.std.proofs.lemmas.Option.{slice_get-get_or}
use Rattle.bandwidth_book.specs.Tunnels.{most_on, sum_at, sum_in, tunnel_eq}
use Rattle.bandwidth_book.proofs.Same.{tunnel_laws}
use Rattle.bandwidth_book.proofs.Tables.{row_left}
use Rattle.bandwidth_book.proofs.Totals.{total_small}
use Rattle.bandwidth_book.proofs.snapshots.all_sums.Goals as goal

pub returns-clause-small : goal.returns-clause-small
returns-clause-small c = λ l p less small.
    let ledgers = c.args.ledgers.now in
    let sums = ledgers.sums.items in
    let lent = c.deref.ensures.value in
    let within : l < length sums = rw lent at less in
    let here : sum_at sums l p ≡ slice_index (slice_index_or sums l []) p = ap (λ o. sum_in o p) (slice_get-get_or sums l [] within) in
    let s = ledgers.summed l p within small in
    let t = total_small tunnel_eq tunnel_laws (most_on l p) ledgers.tunnels.entries ledgers.unique ledgers.few (λ k. ledgers.small l k p within) in
    rw lent (omega (arith, here, s, t))

pub returns-clause-left : goal.returns-clause-left
returns-clause-left c = λ links paths l less s.
    let ledgers = c.args.ledgers.now in
    rw c.deref.ensures.value (row_left ledgers.sums.items ledgers.tunnels.entries links paths l ledgers.summed ledgers.unique less s)
