use Rattle.std.proofs.Common.{◌≡◌, ◌++◌, map, string_bytes, drop}
use Rattle.base_lines.specs.Lines.{text_of_items}
use Rattle.base_lines.specs.declared.item.Item.TheVariants as item
use Rattle.base_lines.proofs.lines.add_paths.Given as goal

-- the text so far and the lines that are left make the whole
abbrev pub invariant-loop-path : goal.invariant-loop-path
invariant-loop-path l =
    string_bytes l.text ++ text_of_items (map (λ x. item.Path x) (drop l.path-index l.paths)) ≡ string_bytes l.fn.text ++ text_of_items (map (λ x. item.Path x) l.fn.paths)
