use Rattle.std.proofs.Common.{◌≡◌, ◌+◌, ◌-◌, List}
use Rattle.std.specs.List.{list_all, range_with_len}
use Rattle.lsp_base.specs.Shares.{fits_at, priorities}
use Rattle.lsp_base.specs.declared.path.Path.{Path}
use Rattle.bandwidth_book.specs.Ledgers.{count, held_at}
use Rattle.bandwidth_book.specs.Paths.{IsHeldBy}
use Rattle.bandwidth_book.proofs.looks.fits_each.Given as goal

abbrev pub invariant-loop-number : goal.invariant-loop-number
invariant-loop-number l = (paths : List Path) → IsHeldBy (count l.ledgers) (held_at l.ledgers) paths
    → list_all (fits_at l.links paths l.path l.link) (range_with_len l.number (l.fn.setup + 1 - l.number)) ≡ list_all (fits_at l.links paths l.path l.link) (priorities l.path.hold l.fn.setup)
