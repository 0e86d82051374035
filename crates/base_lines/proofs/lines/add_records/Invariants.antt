use Rattle.std.proofs.Common.{◌≡◌, ◌++◌, map, string_bytes, drop}
use Rattle.base_lines.specs.Lines.{text_of_items}
use Rattle.base_lines.specs.declared.item.Item.TheVariants as item
use Rattle.base_lines.proofs.lines.add_records.Given as goal

-- the text so far and the lines that are left make the whole
abbrev pub invariant-loop-known : goal.invariant-loop-known
invariant-loop-known l =
    string_bytes l.text ++ text_of_items (map (λ x. item.Record x) (drop l.known-index l.records)) ≡ string_bytes l.fn.text ++ text_of_items (map (λ x. item.Record x) l.fn.records)
