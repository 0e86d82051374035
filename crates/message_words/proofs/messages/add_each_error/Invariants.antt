use Rattle.std.proofs.Common.{◌≡◌, ◌++◌, string_bytes, drop}
use Rattle.message_words.specs.Messages.{error_lines}
use Rattle.message_words.proofs.messages.add_each_error.Given as goal

-- the text so far and that of the errors that are left make the whole
abbrev pub invariant-loop-error : goal.invariant-loop-error
invariant-loop-error l =
    string_bytes l.text ++ error_lines (drop l.error-index l.errors) ≡ string_bytes l.fn.text ++ error_lines l.fn.errors
