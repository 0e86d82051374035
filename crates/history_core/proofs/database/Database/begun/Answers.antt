use Rattle.history_core.proofs.Rolling.{content_begun, kept_begun}
use Rattle.history_core.proofs.database.Database.begun.Goals as goal

pub invariant_of-result : goal.invariant_of-result
invariant_of-result c =
    kept_begun c.args.state c.new.result.items c.in-Ok.base c.in-Ok.first c.args.steps c.args.grants c.new.ensures.items c.in-Ok.ensures.first c.in-Ok.ensures.second c.requires.starts c.what_stands_may_stand.ensures

pub returns-in-Ok : goal.returns-in-Ok
returns-in-Ok c = content_begun c.args.state c.new.result.items c.in-Ok.base c.in-Ok.first c.args.steps c.args.grants c.new.ensures.items c.in-Ok.ensures.first c.in-Ok.ensures.second
