use Rattle.std.proofs.Common.{◌≡◌, ◌++◌, string_bytes, drop}
use Rattle.message_words.specs.Messages.{requests_words}
use Rattle.message_words.proofs.requests.add_each_request.Given as goal

-- the text so far and that of the requests that are left make the whole
abbrev pub invariant-loop-request : goal.invariant-loop-request
invariant-loop-request l =
    string_bytes l.text ++ requests_words (drop l.request-index l.requests) ≡ string_bytes l.fn.text ++ requests_words l.fn.requests
