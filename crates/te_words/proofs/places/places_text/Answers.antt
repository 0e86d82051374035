use Rattle.std.proofs.Common.{◌++◌, ◌∙◌, ap}
use Rattle.json.specs.Tree.{json_tokens}
use Rattle.te_words.specs.Places.{places_document}
use Rattle.te_words.proofs.Depths.{document_shallow}
use Rattle.te_words.proofs.places.places_text.Goals as goal

pub returns : goal.returns
returns c =
    let nodes = c.args.base.now.nodes in
    let whole = places_document nodes in
    c.closed.ensures whole
    (c.in_ok-put_document.ensures.before ∙ c.new-writer.ensures.before ∙ c.new.ensures.items)
    (c.in_ok-put_document.ensures.written ∙ ap (λ front. front ++ json_tokens whole) c.new-writer.ensures.tokens)
    (document_shallow nodes)
