use Rattle.std.proofs.Common.{◌++◌, ◌∙◌, ap}
use Rattle.json.specs.Tree.{json_tokens}
use Rattle.pce_view.specs.Lsp.{lsp_or_null}
use Rattle.pce_view.proofs.Depths.{lsp_or_shallow}
use Rattle.pce_view.proofs.lsp.LspQuestion.json.Goals as goal

pub returns : goal.returns
returns c =
    let whole = lsp_or_null c.args.heard.now c.args.seen.now in
    c.closed.ensures whole
    (c.in_ok-put_lsp_or.ensures.before ∙ c.new-writer.ensures.before ∙ c.new.ensures.items)
    (c.in_ok-put_lsp_or.ensures.written ∙ ap (λ front. front ++ json_tokens whole) c.new-writer.ensures.tokens)
    (lsp_or_shallow c.args.heard.now c.args.seen.now)
