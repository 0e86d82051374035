use Rattle.std.proofs.Common.{◌++◌, ◌∙◌, Some, ap}
use Rattle.json.specs.Tree.{json_tokens}
use Rattle.pce_view.specs.Tickets.{tickets_json}
use Rattle.pce_view.proofs.Depths.{tickets_shallow}
use Rattle.pce_view.proofs.tickets.TicketsQuestion.json.Goals as goal

pub returns : goal.returns
returns c =
    let whole = tickets_json c.deref.result.now in
    c.closed.ensures whole
    (c.in_ok-put_all.ensures.before ∙ c.new-writer.ensures.before ∙ c.new.ensures.items)
    (c.in_ok-put_all.ensures.written ∙ ap (λ front. front ++ json_tokens whole) c.new-writer.ensures.tokens)
    (tickets_shallow c.deref.result.now)
    ∙ ap (λ tickets. Some (tickets_json tickets)) c.deref.ensures.value
