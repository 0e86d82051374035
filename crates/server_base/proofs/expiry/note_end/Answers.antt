use Rattle.std.proofs.Common.{◌≡◌, Bool, subst, ◌∙◌}
use Rattle.server_base.specs.Expiries.{NotesGone}
use Rattle.server_base.proofs.expiry.note_end.Goals as goal

pub returns : goal.returns
returns c = λ calls stands.
    subst (λ (joined : Bool). NotesGone joined c.args.peer c.args.expiry.now c.note_gone.new.expiry) (c.is_joined.ensures ∙ stands) c.note_gone.ensures
