use Rattle.std.proofs.Common.{◌≡◌, Bool, false, sym, ap, ◌∙◌}
use Rattle.engine_core.specs.Joining.{joined_by}
use Rattle.server_base.proofs.Standings.{joined_more}
use Rattle.server_base.proofs.standing.Standing.after.Goals as goal

pub returns : goal.returns
returns c = λ calls stands.
    c.joined_by.ensures ∙ ap (λ (joined : Bool). joined_by joined c.args.call.now.event c.args.call.now.reply) stands ∙ sym (joined_more false calls c.args.call.now)
