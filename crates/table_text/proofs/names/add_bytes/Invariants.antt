use Rattle.std.proofs.Common.{◌≡◌, ◌++◌, string_bytes, drop}
use Rattle.table_text.specs.Names.{bytes_words}
use Rattle.table_text.proofs.names.add_bytes.Given as goal

-- the text so far and that of the remaining bytes make the whole
abbrev pub invariant-loop-byte : goal.invariant-loop-byte
invariant-loop-byte l =
    string_bytes l.text ++ bytes_words (drop l.byte-index l.name) ≡ string_bytes l.fn.text ++ bytes_words l.fn.name
