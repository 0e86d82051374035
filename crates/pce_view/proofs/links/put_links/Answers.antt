use Rattle.std.proofs.Common.{◌≤◌, ◌++◌, length, min, ap, sym, ◌∙◌, arith}
use Rattle.json.specs.Tree.{items_tokens}
use Rattle.pce_view.proofs.Objects.{links_done}
use Rattle.pce_view.proofs.links.put_links.Goals as goal

pub returns-clause-written : goal.returns-clause-written
returns-clause-written c =
    let links = c.args.links.now in
    let lefts = c.args.lefts.now in
    let n = c.loop-number.number in
    let past : min (length links) (length lefts) ≤ n = omega arith in
    let none = links_done c.args.nodes.now n links lefts past in
    c.in_ok-end_array.ensures.ok ∙ ap (λ items. c.loop-number.writer.tokens ++ items_tokens items) (sym none) ∙ c.loop-number.invariant.1
