use Rattle.std.proofs.Common.{◌≡◌, ◌&&◌, nat_lt, List, drop, length}
use Rattle.std.specs.List.{list_all}
use Rattle.lsp_base.specs.Shares.{fits_at, priorities}
use Rattle.lsp_base.specs.declared.path.Path.{Path}
use Rattle.bandwidth_book.specs.Ledgers.{count, held_at}
use Rattle.bandwidth_book.specs.Paths.{IsHeldBy}
use Rattle.bandwidth_book.proofs.looks.fits_on.Given as goal

abbrev pub invariant-loop-link : goal.invariant-loop-link
invariant-loop-link l = (paths : List Path) → IsHeldBy (count l.ledgers) (held_at l.ledgers) paths
    → list_all (λ n. nat_lt n (length l.links) && list_all (fits_at l.links paths l.path n) (priorities l.path.hold l.fn.setup)) (drop l.link-index l.numbers)
    ≡ list_all (λ n. nat_lt n (length l.links) && list_all (fits_at l.links paths l.path n) (priorities l.path.hold l.fn.setup)) l.numbers
