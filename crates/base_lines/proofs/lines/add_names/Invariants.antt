use Rattle.std.proofs.Common.{◌≡◌, ◌++◌, map, string_bytes, drop}
use Rattle.base_lines.specs.Lines.{text_of_items}
use Rattle.base_lines.specs.declared.item.Item.TheVariants as item
use Rattle.base_lines.proofs.lines.add_names.Given as goal

-- the text so far and the lines that are left make the whole
abbrev pub invariant-loop-name : goal.invariant-loop-name
invariant-loop-name l =
    string_bytes l.text ++ text_of_items (map (λ x. item.Name x) (drop l.name-index l.names)) ≡ string_bytes l.fn.text ++ text_of_items (map (λ x. item.Name x) l.fn.names)
