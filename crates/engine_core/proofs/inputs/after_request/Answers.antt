use Rattle.std.proofs.Common.{sym, ◌∙◌}
use Rattle.engine_core.specs.Calls.{newest_reply}
use Rattle.engine_core.proofs.Cases.{request_refused, request_taken}
use Rattle.engine_core.proofs.inputs.after_request.Goals as goal

pub returns-in-Refused : goal.returns-in-Refused
returns-in-Refused g c = λ go_on.
    request_refused g.S.Store.moves g.S.Store.is_full c.refuse_request.result c.args.store.now c.args.client.now c.refuse_request.new.client c.args.request (newest_reply (g.S.Store.calls c.args.store.now)) c.in-Refused.why go_on
    (sym c.reply.ensures ∙ c.in-Refused.is) (g.met.S.Store.moves_nowhere c.args.store.now) c.refuse_request.ensures.answered c.refuse_request.ensures.unchanged c.refuse_request.ensures.only_memory

pub returns-in_default : goal.returns-in_default
returns-in_default g c = λ go_on.
    request_taken g.S.Store.moves c.args.store.now c.args.client.now c.args.request (newest_reply (g.S.Store.calls c.args.store.now)) go_on (λ why is. c.in_default.not-Refused why (c.reply.ensures ∙ is)) (g.met.S.Store.moves_nowhere c.args.store.now)
