use Rattle.std.proofs.Common.{◌≡◌, ◌++◌, string_bytes, drop}
use Rattle.table_text.specs.Numbers.{rest_words}
use Rattle.table_text.proofs.numbers.add_rest.Given as goal

-- the text so far and that of the remaining numbers make the whole
abbrev pub invariant-loop-number : goal.invariant-loop-number
invariant-loop-number l =
    string_bytes l.text ++ rest_words (drop l.number-index l.numbers) ≡ string_bytes l.fn.text ++ rest_words l.fn.numbers
