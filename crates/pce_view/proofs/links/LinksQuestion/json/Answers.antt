use Rattle.std.proofs.Common.{◌++◌, ◌∙◌, ap}
use Rattle.json.specs.Tree.{json_tokens}
use Rattle.pce_view.specs.Links.{book_json}
use Rattle.pce_view.proofs.Depths.{book_shallow}
use Rattle.pce_view.proofs.links.LinksQuestion.json.Goals as goal

pub returns : goal.returns
returns c =
    let whole = book_json c.args.seen.now.nodes.items c.args.seen.now.links.items c.args.seen.now.left.items in
    c.closed.ensures whole
    (c.in_ok-put_book.ensures.before ∙ c.new-writer.ensures.before ∙ c.new.ensures.items)
    (c.in_ok-put_book.ensures.written ∙ ap (λ front. front ++ json_tokens whole) c.new-writer.ensures.tokens)
    (book_shallow c.args.seen.now.nodes.items c.args.seen.now.links.items c.args.seen.now.left.items)
