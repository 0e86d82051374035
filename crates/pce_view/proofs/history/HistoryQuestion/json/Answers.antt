use Rattle.std.proofs.Common.{◌++◌, ◌∙◌, ap}
use Rattle.json.specs.Tree.{json_tokens}
use Rattle.pce_view.specs.History.{steps_json}
use Rattle.pce_view.proofs.Depths.{steps_shallow}
use Rattle.pce_view.proofs.history.HistoryQuestion.json.Goals as goal

pub returns : goal.returns
returns c =
    let whole = steps_json c.args.seen.now.first c.args.seen.now.steps.items in
    c.closed.ensures whole
    (c.in_ok-put_all.ensures.before ∙ c.new-writer.ensures.before ∙ c.new.ensures.items)
    (c.in_ok-put_all.ensures.written ∙ ap (λ front. front ++ json_tokens whole) c.new-writer.ensures.tokens)
    (steps_shallow c.args.seen.now.first c.args.seen.now.steps.items)
