use Rattle.std.proofs.Common.{◌∙◌}
use Rattle.bandwidth_book.proofs.Reserved.{total_is_reserved}
use Rattle.bandwidth_book.proofs.looks.sums_at.Goals as goal

pub returns-clause-reserved : goal.returns-clause-reserved
returns-clause-reserved c = λ paths s p h.
    c.sums.ensures.summed p h
    ∙ total_is_reserved c.args.ledgers.now.tunnels.entries paths c.args.link p c.sums.ensures.unique
    (λ t one. s c.args.link t one c.requires)
