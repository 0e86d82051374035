use Rattle.std.proofs.Common.{◌≡◌, List, take}
use Rattle.lsp_base.specs.declared.path.Path.{Path}
use Rattle.bandwidth_book.specs.Entries.{links_with}
use Rattle.bandwidth_book.specs.Ledgers.{count, held_at}
use Rattle.bandwidth_book.specs.Links.{own_among}
use Rattle.bandwidth_book.specs.Paths.{IsHeldBy}
use Rattle.bandwidth_book.proofs.own.own_on.Given as goal

abbrev pub invariant-loop-entry : goal.invariant-loop-entry
invariant-loop-entry l = (paths : List Path) → IsHeldBy (count l.ledgers) (held_at l.ledgers) paths
    → l.own.items ≡ own_among paths l.tunnel (count l.ledgers) (take l.entry-index (links_with l.entries))
