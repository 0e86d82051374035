use Rattle.std.proofs.Common.{◌++◌, ◌∙◌, ap}
use Rattle.json.specs.Tree.{json_tokens}
use Rattle.pce_view.specs.Without.{run_json}
use Rattle.pce_view.proofs.Depths.{run_shallow}
use Rattle.pce_view.proofs.without.run_text.Goals as goal

pub returns : goal.returns
returns c =
    let whole = run_json c.args.link c.args.rest c.args.moves.now in
    c.closed.ensures whole
    (c.in_ok-put_run.ensures.before ∙ c.new-writer.ensures.before ∙ c.new.ensures.items)
    (c.in_ok-put_run.ensures.written ∙ ap (λ front. front ++ json_tokens whole) c.new-writer.ensures.tokens)
    (run_shallow c.args.link c.args.rest c.args.moves.now)
