use Rattle.std.proofs.Common.{◌∙◌}
use Rattle.bandwidth_book.specs.Ledgers.{held_at}
use Rattle.bandwidth_book.specs.Paths.{held_by, picked}
use Rattle.bandwidth_book.proofs.Dropped.{without_same}
use Rattle.bandwidth_book.proofs.drops.drop_paths.Goals as goal

pub returns-in-Ok-clause-kept : goal.returns-in-Ok-clause-kept
returns-in-Ok-clause-kept c = λ l t h.
    (rw c.deref.ensures.value at (c.drop_picked.ensures.kept l t h))
    ∙ without_same (held_at c.args.ledgers.now l t) (held_by l t (picked c.in-Ok.places.items c.args.paths.now)) (held_by l t c.args.paths.now) (λ r. c.in-Ok.ensures l t r)
