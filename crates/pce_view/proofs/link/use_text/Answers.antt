use Rattle.std.proofs.Common.{◌++◌, ◌∙◌, ap}
use Rattle.json.specs.Tree.{json_tokens}
use Rattle.pce_view.specs.Link.{use_json}
use Rattle.pce_view.proofs.Depths.{use_shallow}
use Rattle.pce_view.proofs.link.use_text.Goals as goal

pub returns : goal.returns
returns c =
    let whole = use_json c.args.number c.args.seen.now c.args.tunnels.now in
    c.closed.ensures whole
    (c.in_ok-put_use.ensures.before ∙ c.new-writer.ensures.before ∙ c.new.ensures.items)
    (c.in_ok-put_use.ensures.written ∙ ap (λ front. front ++ json_tokens whole) c.new-writer.ensures.tokens)
    (use_shallow c.args.number c.args.seen.now c.args.tunnels.now)
