use Rattle.std.proofs.Common.{◌++◌, ◌∙◌, ap}
use Rattle.json.specs.Tree.{json_tokens}
use Rattle.pce_view.specs.Status.{status_json}
use Rattle.pce_view.proofs.Depths.{status_shallow}
use Rattle.pce_view.proofs.status.StatusQuestion.json.Goals as goal

pub returns : goal.returns
returns c =
    let whole = status_json c.args.info.now.version.now c.args.info.now.uptime_ms c.args.seen.now in
    c.closed.ensures whole
    (c.in_ok-put_status.ensures.before ∙ c.new-writer.ensures.before ∙ c.new.ensures.items)
    (c.in_ok-put_status.ensures.written ∙ ap (λ front. front ++ json_tokens whole) c.new-writer.ensures.tokens)
    (status_shallow c.args.info.now.version.now c.args.info.now.uptime_ms c.args.seen.now)
