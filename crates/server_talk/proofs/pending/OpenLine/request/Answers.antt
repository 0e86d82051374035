use Rattle.std.proofs.Common.{ℕ, List, ◌∙◌, subst}
use Rattle.server_talk.specs.Listening.{Asks}
use Rattle.server_talk.specs.Requests.{request_of}
use Rattle.server_talk.proofs.Requesting.{too_long, all_kept, long_is_bad, given_what_is_asked}
use Rattle.server_talk.proofs.pending.OpenLine.request.Goals as goal

pub returns-then-self : goal.returns-then-self
returns-then-self c = λ line kept. long_is_bad line (too_long c.args.self.now.is_long c.args.self.now.bytes.items line c.if-self.true kept)

pub returns : goal.returns
returns c = λ line kept.
    subst (λ (bytes : List ℕ). Asks c.request_of.result (request_of bytes)) (c.deref.ensures.value ∙ all_kept c.args.self.now.is_long c.args.self.now.bytes.items line c.if-self.false kept)
    (given_what_is_asked c.request_of.result (request_of c.deref.result.now) c.request_of.ensures.request c.request_of.ensures.good)
