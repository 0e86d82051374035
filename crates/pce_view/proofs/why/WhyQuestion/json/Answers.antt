use Rattle.std.proofs.Common.{◌++◌, ◌∙◌, ap}
use Rattle.json.specs.Tree.{json_tokens}
use Rattle.pce_view.specs.Why.{origins_or_null}
use Rattle.pce_view.proofs.Depths.{origins_or_shallow}
use Rattle.pce_view.proofs.why.WhyQuestion.json.Goals as goal

pub returns : goal.returns
returns c =
    let whole = origins_or_null c.args.info.now.uptime_ms c.args.info.now.marks.now c.args.info.now.residuals.now c.args.seen.now in
    c.closed.ensures whole
    (c.in_ok-put_origins_or.ensures.before ∙ c.new-writer.ensures.before ∙ c.new.ensures.items)
    (c.in_ok-put_origins_or.ensures.written ∙ ap (λ front. front ++ json_tokens whole) c.new-writer.ensures.tokens)
    (origins_or_shallow c.args.info.now.uptime_ms c.args.info.now.marks.now c.args.info.now.residuals.now c.args.seen.now)
