use Rattle.std.proofs.Common.{◌≡◌, ◌++◌, string_bytes, drop}
use Rattle.message_words.specs.Messages.{srp_lines}
use Rattle.message_words.proofs.messages.add_each_srp.Given as goal

-- the text so far and that of the ids that are left make the whole
abbrev pub invariant-loop-id : goal.invariant-loop-id
invariant-loop-id l =
    string_bytes l.text ++ srp_lines (drop l.id-index l.ids) ≡ string_bytes l.fn.text ++ srp_lines l.fn.ids
