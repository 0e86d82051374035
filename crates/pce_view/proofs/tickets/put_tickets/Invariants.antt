use Rattle.std.proofs.Common.{◌≡◌, ◌++◌, drop}
use Rattle.json.specs.Tree.{json_tokens, items_tokens}
use Rattle.json.specs.Json.{array}
use Rattle.pce_view.specs.Tickets.{ticket_items}
use Rattle.pce_view.proofs.tickets.put_tickets.Given as goal

-- the tokens so far and those of what is left make the whole
abbrev pub invariant-loop-ticket : goal.invariant-loop-ticket
invariant-loop-ticket l =
    (l.writer.before ≡ l.fn.writer.before)
    × (l.writer.tokens ++ items_tokens (ticket_items (drop l.ticket-index l.tickets)) ≡ l.fn.writer.tokens ++ json_tokens (array (ticket_items l.tickets)))
