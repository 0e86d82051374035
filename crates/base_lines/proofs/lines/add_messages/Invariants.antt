use Rattle.std.proofs.Common.{◌≡◌, ◌++◌, map, string_bytes, drop}
use Rattle.std.specs.List.{list_all}
use Rattle.base_lines.specs.Lines.{message_has_line, text_of_items}
use Rattle.base_lines.specs.declared.item.Item.TheVariants as item
use Rattle.base_lines.proofs.lines.add_messages.Given as goal

-- the text so far and the lines that are left make the whole, and each message so far has a line
abbrev pub invariant-loop-message : goal.invariant-loop-message
invariant-loop-message l =
    (string_bytes l.text ++ text_of_items (map (λ x. item.Waits x) (drop l.message-index l.messages)) ≡ string_bytes l.fn.text ++ text_of_items (map (λ x. item.Waits x) l.fn.messages))
    × (list_all message_has_line (drop l.message-index l.messages) ≡ list_all message_has_line l.fn.messages)
