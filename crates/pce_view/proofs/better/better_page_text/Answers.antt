use Rattle.std.proofs.Common.{◌++◌, ◌∙◌, ap}
use Rattle.json.specs.Tree.{json_tokens}
use Rattle.pce_view.specs.Better.{better_page_json}
use Rattle.pce_view.proofs.Depths.{better_shallow}
use Rattle.pce_view.proofs.better.better_page_text.Goals as goal

pub returns : goal.returns
returns c =
    let whole = better_page_json c.args.from c.args.page.now c.args.found.now in
    c.closed.ensures whole
    (c.in_ok-put_better_page.ensures.before ∙ c.new-writer.ensures.before ∙ c.new.ensures.items)
    (c.in_ok-put_better_page.ensures.written ∙ ap (λ front. front ++ json_tokens whole) c.new-writer.ensures.tokens)
    (better_shallow c.args.from c.args.page.now c.args.found.now)
