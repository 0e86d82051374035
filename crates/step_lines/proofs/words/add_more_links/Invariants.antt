use Rattle.std.proofs.Common.{◌≡◌, ◌++◌, string_bytes, drop}
use Rattle.step_lines.specs.Events.{more_links}
use Rattle.step_lines.proofs.words.add_more_links.Given as goal

-- the text so far and that of the links that are left make the whole
abbrev pub invariant-loop-link : goal.invariant-loop-link
invariant-loop-link l =
    string_bytes l.text ++ more_links (drop l.link-index l.links) ≡ string_bytes l.fn.text ++ more_links l.fn.links
