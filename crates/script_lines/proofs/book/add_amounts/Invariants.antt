use Rattle.std.proofs.Common.{◌≡◌, ◌++◌, string_bytes, drop}
use Rattle.script_lines.specs.Book.{amounts_text}
use Rattle.script_lines.proofs.book.add_amounts.Given as goal

-- the text so far and that of the amounts that are left make the whole
abbrev pub invariant-loop-amount : goal.invariant-loop-amount
invariant-loop-amount l =
    string_bytes l.text ++ amounts_text (drop l.amount-index l.amounts) ≡ string_bytes l.fn.text ++ amounts_text l.amounts
