use Rattle.std.proofs.Common.{◌++◌, ◌∙◌, ap}
use Rattle.json.specs.Tree.{json_tokens}
use Rattle.pce_view.specs.Grants.{grants_json}
use Rattle.pce_view.proofs.Depths.{grants_shallow}
use Rattle.pce_view.proofs.grants.GrantsQuestion.json.Goals as goal

pub returns : goal.returns
returns c =
    let whole = grants_json (c.args.self.now.0).from c.args.info.now.uptime_ms c.args.heard.now c.args.seen.now in
    c.closed.ensures whole
    (c.in_ok-put_page.ensures.before ∙ c.new-writer.ensures.before ∙ c.new.ensures.items)
    (c.in_ok-put_page.ensures.written ∙ ap (λ front. front ++ json_tokens whole) c.new-writer.ensures.tokens)
    (grants_shallow (c.args.self.now.0).from c.args.info.now.uptime_ms c.args.heard.now c.args.seen.now)
