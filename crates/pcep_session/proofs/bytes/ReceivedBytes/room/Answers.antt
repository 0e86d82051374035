use Rattle.std.proofs.Common.{◌∙◌}
use Rattle.pcep_session.proofs.Kept.{none_kept}
use Rattle.pcep_session.proofs.bytes.ReceivedBytes.room.Goals as goal

pub returns-clause-at_most : goal.returns-clause-at_most
returns-clause-at_most c none = rw c.capacity.ensures (c.self.invariant.1 (none_kept c.self.inside.start c.self.inside.items.items c.self.invariant.0 (c.self.view_is ∙ none)))
