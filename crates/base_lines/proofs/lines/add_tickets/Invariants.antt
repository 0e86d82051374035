use Rattle.std.proofs.Common.{◌≡◌, ◌++◌, map, string_bytes, drop}
use Rattle.base_lines.specs.Lines.{text_of_items}
use Rattle.base_lines.specs.declared.item.Item.TheVariants as item
use Rattle.base_lines.proofs.lines.add_tickets.Given as goal

-- the text so far and the lines that are left make the whole
abbrev pub invariant-loop-ticket : goal.invariant-loop-ticket
invariant-loop-ticket l =
    string_bytes l.text ++ text_of_items (map (λ x. item.Ticket x) (drop l.ticket-index l.tickets)) ≡ string_bytes l.fn.text ++ text_of_items (map (λ x. item.Ticket x) l.fn.tickets)
