use Rattle.std.proofs.Common.{◌≡◌, ◌++◌, string_bytes, drop}
use Rattle.message_words.specs.Messages.{rp_lines}
use Rattle.message_words.proofs.messages.add_each_request.Given as goal

-- the text so far and that of the ids that are left make the whole
abbrev pub invariant-loop-id : goal.invariant-loop-id
invariant-loop-id l =
    string_bytes l.text ++ rp_lines (drop l.id-index l.ids) ≡ string_bytes l.fn.text ++ rp_lines l.fn.ids
