use Rattle.std.proofs.Common.{◌≡◌, ◌<◌, ℕ, length, ap, arith, ◌∙◌}
use Rattle.std.specs.Arc.{arc_value}
use Rattle.te_snapshot.specs.Network.{NetworkState, state_of}
use Rattle.te_snapshot.specs.Pages.{row}
use Rattle.bandwidth_book.specs.Books.{network_of}
use Rattle.bandwidth_book.specs.Ledgers.{count, held_at}
use Rattle.bandwidth_book.specs.Tables.{IsLeftOver, IsRowOf}
use Rattle.bandwidth_book.proofs.Tables.{if_ok, rows_are_left}
use Rattle.bandwidth_book.proofs.book.Book.snapshot_now.Goals as goal

pub returns-clause-left : goal.returns-clause-left
returns-clause-left c =
    let book = c.args.self.now in
    let links = book.links.items in
    let table = c.in_ok-table.table in
    let lent = c.deref.ensures.value in
    let sized = book.sized in
    let long : length table ≡ length links = rw lent at c.in_ok-table.ensures.count in
    let rows : (l : ℕ) → l < length links → IsRowOf links (held_at book.ledgers) l (row table l) = rw lent at c.in_ok-table.ensures.rows in
    if_ok c.of.result (λ s. s ≡ state_of (arc_value c.in_ok-topology.topology) table) (IsLeftOver (network_of book) (count book.ledgers) (held_at book.ledgers)) c.of.ensures
    (λ s is. record {
      network = ap (λ (x : NetworkState). x.network) is ∙ c.in_ok-topology.ensures;
      left = λ paths stands. ap (λ (x : NetworkState). x.unreserved) is ∙ rows_are_left links paths table long (λ l less. rows l less paths (λ t h. stands l t h (omega (arith, less, sized))));
    })
