use Rattle.std.proofs.Common.{◌++◌, ◌∙◌, ap}
use Rattle.json.specs.Tree.{json_tokens}
use Rattle.pce_view.specs.Path.{path_answer_json}
use Rattle.pce_view.proofs.Depths.{path_answer_shallow}
use Rattle.pce_view.proofs.path.path_text.Goals as goal

pub returns : goal.returns
returns c =
    let whole = path_answer_json c.args.answer.now c.args.tightest.now c.args.full.now in
    c.closed.ensures whole
    (c.in_ok-put_answer.ensures.before ∙ c.new-writer.ensures.before ∙ c.new.ensures.items)
    (c.in_ok-put_answer.ensures.written ∙ ap (λ front. front ++ json_tokens whole) c.new-writer.ensures.tokens)
    (path_answer_shallow c.args.answer.now c.args.tightest.now c.args.full.now)
