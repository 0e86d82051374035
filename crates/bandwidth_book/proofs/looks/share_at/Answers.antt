use Rattle.std.proofs.Common.{sym, ◌∙◌}
use Rattle.bandwidth_book.specs.Ledgers.{held_at}
use Rattle.bandwidth_book.specs.Paths.{held_by}
use Rattle.bandwidth_book.proofs.Counts.{most_same}
use Rattle.bandwidth_book.proofs.Shares.{share_is_most}
use Rattle.bandwidth_book.proofs.looks.share_at.Goals as goal

pub returns : goal.returns
returns c = λ paths s.
    c.maximum_at.ensures
    ∙ (most_same (held_at c.args.ledgers.now c.args.link c.args.tunnel.now) (held_by c.args.link c.args.tunnel.now paths) c.args.priority (λ h. s c.args.link c.args.tunnel.now h c.requires)
    ∙ sym (share_is_most paths c.args.tunnel.now c.args.link c.args.priority))
