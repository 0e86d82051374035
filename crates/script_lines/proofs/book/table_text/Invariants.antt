use Rattle.std.proofs.Common.{◌≡◌, ◌++◌, string_bytes, drop}
use Rattle.script_lines.specs.Book.{table_text}
use Rattle.script_lines.proofs.book.table_text.Given as goal

-- the text so far and that of the rows that are left make the whole
abbrev pub invariant-loop-link : goal.invariant-loop-link
invariant-loop-link l =
    string_bytes l.text ++ table_text l.link (drop l.link l.table) ≡ table_text 0 l.table
