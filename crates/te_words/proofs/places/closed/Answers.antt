use Rattle.std.proofs.Common.{◌++◌, ◌∙◌, ap}
use Rattle.json.specs.Lex.{tokens}
use Rattle.json.specs.Print.{print}
use Rattle.te_words.proofs.Depths.{document-of_tokens}
use Rattle.te_words.proofs.places.closed.Goals as goal

pub returns : goal.returns
returns c j before written shallow =
    let text = c.into_inner.ensures.items ∙ ap (λ front. front ++ print c.args.writer.tokens) before in
    document-of_tokens c.into_inner.result.items j (ap tokens text ∙ c.into_inner.ensures.reads_back ∙ written) shallow
