use Rattle.std.proofs.Common.{◌≡◌, ◌++◌, string_bytes, drop}
use Rattle.step_lines.specs.Events.{more_entries}
use Rattle.step_lines.proofs.words.add_more_entries.Given as goal

-- the text so far and that of the entries that are left make the whole
abbrev pub invariant-loop-entry : goal.invariant-loop-entry
invariant-loop-entry l =
    string_bytes l.text ++ more_entries (drop l.entry-index l.entries) ≡ string_bytes l.fn.text ++ more_entries l.fn.entries
