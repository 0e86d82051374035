use Rattle.std.proofs.Common.{◌++◌, ◌∙◌, ap}
use Rattle.json.specs.Tree.{json_tokens}
use Rattle.pce_view.specs.LinkLine.{lines_json}
use Rattle.pce_view.proofs.Depths.{lines_shallow}
use Rattle.pce_view.proofs.link_line.LinkLineQuestion.json.Goals as goal

pub returns : goal.returns
returns c =
    let whole = lines_json c.args.self.now.0 c.args.seen.now in
    c.closed.ensures whole
    (c.in_ok-put_lines.ensures.before ∙ c.new-writer.ensures.before ∙ c.new.ensures.items)
    (c.in_ok-put_lines.ensures.written ∙ ap (λ front. front ++ json_tokens whole) c.new-writer.ensures.tokens)
    (lines_shallow c.args.self.now.0 c.args.seen.now)
